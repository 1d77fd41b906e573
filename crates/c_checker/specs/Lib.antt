pub mod Codes
pub mod Faults
pub mod Held
pub mod Many
