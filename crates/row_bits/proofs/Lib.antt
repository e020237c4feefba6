pub mod MixedBytes
pub mod Lanes
pub mod SetBits
pub mod LowestBit
pub mod UnsetBits
pub mod EdgeLists
pub mod PairEdges
pub mod ActiveLists
