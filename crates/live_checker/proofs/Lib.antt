-- What this crate alone cites.
mod ExamplesHold
mod Words
mod Standing
mod SameRows
mod Called
mod Runs
mod CallLists
