-- What other crates cite.
pub mod Rounds
pub mod Clocked
pub mod Feeding
pub mod Known
pub mod Waiting
-- What this crate alone cites.
mod Shows
mod AtPlaces
mod Moving
mod FirstDid
mod Taking
mod Places
mod Locks
mod Ticking
mod RoundsMade
mod Resting
mod Gathering
mod Covering
mod Batching
mod Slices
mod Seen
mod Keeping
