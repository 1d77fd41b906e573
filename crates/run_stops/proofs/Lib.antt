-- What other crates cite.
pub mod Moves
pub mod Readings
-- What this crate alone cites.
mod Pieces
mod StopLine
