-- What this crate alone cites.
mod AllLanes
mod Taking
mod CallsHold
mod InTime
