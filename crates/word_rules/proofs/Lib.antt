-- What other crates cite.
pub mod Making
pub mod LaterRows
-- What this crate alone cites.
mod Runs
mod ExamplesHold
mod Befores
mod Lifted
mod KeptBursts
mod KeptChannels
mod Dues
mod FlowRows
mod Keeping
mod RowOrder
