-- cited by public clauses
pub mod Texts
pub mod Rows
