pub mod WordLaws
pub mod TextLaws
pub mod HexFront
pub mod HexLaws
pub mod KindBits
pub mod BytesAgain
pub mod Gathering
