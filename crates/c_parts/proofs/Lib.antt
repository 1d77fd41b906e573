mod Blocks
pub mod Holding
pub mod Meeting
