-- What other crates cite.
pub mod ListedSent
pub mod SomeList
pub mod SentLists
pub mod Making
pub mod FirstWords
pub mod HeldOn
pub mod BlockWords
-- What this crate alone cites.
mod NumbersLaw
mod Passing
mod Loading
mod Steps
mod Kept
mod Counting
mod ListedCounts
mod Opening
mod Slots
mod Listing
mod SentExamplesHold
mod Numbers
mod Leftover
mod DataWords
