pub mod States
pub mod Sending
pub mod Calls
pub mod Laws
