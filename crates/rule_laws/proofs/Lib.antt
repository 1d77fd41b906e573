-- What other crates cite.
pub mod AllKept
-- What this crate alone cites.
mod Pieces
mod Places
mod Behind
mod Facts
mod Carrying
mod Calendars
mod Packets
mod Filled
mod Closed
mod SingleWords
mod PremisesHold
mod Unbroken
mod OuterSpans
mod ToldPieces
mod KeptStates
mod PacketsTold
