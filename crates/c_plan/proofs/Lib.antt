mod Counted
mod GroupPlaces
mod Limits
mod SlotFits
mod Slots
