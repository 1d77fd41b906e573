-- What other crates cite.
pub mod Gathers
-- What this crate alone cites.
mod FrontWords
mod Stops
mod Tables
mod Examples
mod Gathering
mod Finishing
mod Firsts
mod Takings
mod Fed
mod Taken
mod GatherRun
mod JoinGathered
