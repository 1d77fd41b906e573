pub mod LiveStream
pub mod Waiting
pub mod Turns
pub mod Gives
pub mod Examples
