-- What other crates cite.
pub mod Clocks
pub mod KnownItems
pub mod KnownEvents
-- What this crate alone cites.
mod LanesAt
