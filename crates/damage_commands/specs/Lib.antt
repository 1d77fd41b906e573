-- cited by public clauses
pub mod PlanLanes
pub mod Struck
pub mod Damage
pub mod DamageLaws
-- needed by private functions and proofs alone
pub mod Making
pub mod Values
