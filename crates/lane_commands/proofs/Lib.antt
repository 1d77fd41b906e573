-- What other crates cite.
pub mod StripeWork
-- What this crate alone cites.
mod Filling
mod LaneMaking
mod StripeLaws
mod NoWords
