pub mod Lines
pub mod Stops
pub mod Reading
pub mod WordsInputs
pub mod Examples
