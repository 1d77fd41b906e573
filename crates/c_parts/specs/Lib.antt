pub mod Codes
pub mod Misuses
pub mod OnBlock
pub mod OnHeld
pub mod Places
pub mod Refusals
pub mod Reports
