-- What other crates cite.
pub mod Damages
-- What this crate alone cites.
mod Bytes
mod Differing
mod NoneStruck
mod Zeros
mod Arrived
mod LanesRead
mod Makers
mod Sending
