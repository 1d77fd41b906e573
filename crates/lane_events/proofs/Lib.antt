-- What other crates cite.
pub mod EventsHold
pub mod Due
-- What this crate alone cites.
mod Dues
mod Local
mod OneMore
mod Grow
mod AllGrow
mod Counts
mod Rise
mod WorkedEventsHold
mod LastBits
mod Telling
mod PlainWords
mod Balances
mod Walking
mod Inspecting
mod Pieces
mod Appending
mod Until
mod PassedCodes
mod SendersBalance
