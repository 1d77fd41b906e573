-- cited by public clauses
pub mod Gather
pub mod GatherLaws
pub mod JoinLaw
pub mod Table
pub mod Growing
pub mod TableLaws
-- needed by private functions and proofs alone
pub mod Taking
pub mod Lanes
