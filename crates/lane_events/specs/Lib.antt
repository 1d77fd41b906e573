pub mod Balance
pub mod Events
pub mod EventLaw
pub mod Examples
pub mod Inspection
pub mod Names
pub mod Steps
