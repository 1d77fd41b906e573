-- What other crates cite.
pub mod Opens
pub mod Given
-- What this crate alone cites.
mod OwnRows
mod Told
mod Filled
mod Hearings
mod Slots
mod Starts
mod Runs
mod Listed
mod Packets
mod TwoEndsHold
