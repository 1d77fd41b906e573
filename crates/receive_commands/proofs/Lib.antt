-- What other crates cite.
pub mod Receives
pub mod LanesRead
pub mod ReceiveRun
-- What this crate alone cites.
mod OpenFiles
mod Buffers
mod LanesThere
