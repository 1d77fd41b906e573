-- What other crates cite.
pub mod Conversions
-- What this crate alone cites.
mod Converting
mod Undone
mod Given
mod Worked
