-- cited by public clauses
pub mod Table
pub mod Check
pub mod CheckLaws
pub mod AfterBurst
-- needed by private functions and proofs alone
pub mod Values
pub mod Tally
pub mod Making
