pub mod Codes
pub mod Many
pub mod Held
pub mod Shown
