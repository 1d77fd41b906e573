-- What other crates cite.
pub mod Feeding
-- What this crate alone cites.
mod Numbers
mod Pieces
mod PartsHold
