pub mod Numbers
pub mod Capture
pub mod Records
pub mod Places
pub mod Written
pub mod Names
pub mod Texts
pub mod Examples
