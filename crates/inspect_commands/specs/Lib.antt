-- cited by public clauses
pub mod Table
pub mod Inspect
pub mod InspectLaws
-- needed by private functions and proofs alone
pub mod Telling
