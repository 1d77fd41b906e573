-- cited by public clauses
pub mod Receive
pub mod ReadLanes
-- needed by private functions and proofs alone
pub mod OpenLanes
