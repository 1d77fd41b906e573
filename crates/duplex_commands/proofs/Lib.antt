-- What other crates cite.
pub mod Works
pub mod HeldBack
-- What this crate alone cites.
mod Sized
mod Parts
mod CapturesSent
mod PeaksWithin
mod PremisesHold
mod ReadParts
mod Backs
mod Begins
mod Came
mod Ends
mod Kept
mod Lends
mod Steps
mod Writes
mod Loads
