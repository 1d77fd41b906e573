pub mod Lanes
pub mod Calls
pub mod Laws
