pub mod Covers
pub mod Numbered
mod Points
mod RowSteps
mod Joins
