-- What other crates cite.
pub mod Blocks
pub mod Writings
pub mod Going
pub mod ReadingBack
pub mod WrittenSamples
-- What this crate alone cites.
mod ExamplesHold
mod Samples
mod Steps
mod OneBit
mod OneSample
mod Idle
mod Sent
mod Split
mod Showing
mod Invalid
mod Rightly
mod Tells
mod Latest
mod Framing
mod Checked
