-- What other crates cite.
pub mod Again
pub mod Sizes
pub mod NamesDiffer
-- What this crate alone cites.
mod Left
mod Hex
mod Stand
mod Placed
