-- What other crates cite.
pub mod Places
-- What this crate alone cites.
mod Lists
mod Received
mod Spread
