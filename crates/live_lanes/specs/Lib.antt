pub mod States
pub mod Lanes
pub mod Standing
pub mod Laws
