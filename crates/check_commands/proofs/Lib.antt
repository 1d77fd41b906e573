-- What other crates cite.
pub mod Checks
-- What this crate alone cites.
mod Tables
mod Tallies
mod Passing
mod Runs
mod Rules
mod Makers
mod Examples
mod AfterBurst
