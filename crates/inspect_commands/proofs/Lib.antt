-- What other crates cite.
pub mod Inspects
-- What this crate alone cites.
mod Tables
mod LanesThere
mod LaneByLane
mod Tellings
mod AllLanes
mod InspectRun
