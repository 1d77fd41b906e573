pub mod Calls
pub mod Examples
pub mod Laws
pub mod Numbers
pub mod Places
