-- What other crates cite.
pub mod Work
pub mod InOrder
-- What this crate alone cites.
mod PlanResent
mod Accepting
mod Passing
mod Makers
mod ResendRead
mod PremisesHold
