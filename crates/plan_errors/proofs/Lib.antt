-- What other crates cite.
pub mod RowErrors
