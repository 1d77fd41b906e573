-- What other crates cite.
pub mod Works
pub mod StatusBack
-- What this crate alone cites.
mod Makers
mod Hexes
mod FlowRead
mod Worked
mod Readings
mod Frames
mod RowTexts
mod FlowLength
mod Undone
mod HandedOver
