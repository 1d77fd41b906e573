-- What other crates cite.
pub mod Growths
pub mod GivenBack
-- What this crate alone cites.
mod Examples
mod Reading
mod Epochs
mod PlaceRows
mod Clean
mod Delivered
mod Placeless
mod Joined
mod Fits
