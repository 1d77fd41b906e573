-- What this crate alone cites.
mod Numberings
mod Firsts
mod Bits
mod Takings
mod Feeding
mod Standings
mod LawsHold
mod WholeLanes
