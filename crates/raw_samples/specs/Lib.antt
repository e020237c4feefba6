pub mod Raw
pub mod RawKinds
