pub mod Calls
pub mod CallsLaw
pub mod FarEnd
pub mod Misuses
pub mod Opens
pub mod Runs
pub mod StateLaw
