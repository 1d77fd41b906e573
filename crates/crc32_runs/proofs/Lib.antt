-- What this crate alone cites.
mod Sums
mod Later
mod Multiple
mod Added
mod Mixed
mod Waiting
