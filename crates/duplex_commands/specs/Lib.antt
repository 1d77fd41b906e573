-- cited by public clauses
pub mod Reading
pub mod Names
pub mod Run
pub mod Laws
pub mod Values
pub mod HeldBack
pub mod Loaded
pub mod PremisesMet
-- needed by private functions and proofs alone
pub mod Captures
pub mod Slots
pub mod Ended
