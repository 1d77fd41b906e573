-- What other crates cite.
pub mod Places
pub mod Taken
-- What this crate alone cites.
mod FirstDid
mod Stepping
