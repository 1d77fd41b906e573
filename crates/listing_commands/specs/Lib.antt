pub mod Limits
pub mod Conversion
pub mod Listing
pub mod Assembling
pub mod Undoing
pub mod Worked
