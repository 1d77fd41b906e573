-- What other crates cite.
pub mod Numbers
pub mod Keys
pub mod KeyHolds
pub mod Codes
pub mod Disparities
pub mod CodesOfWords
pub mod FilesHold
pub mod StripingHolds
-- What this crate alone cites.
mod ExamplesHold
