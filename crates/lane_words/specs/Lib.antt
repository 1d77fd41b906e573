-- each is cited by public clauses
pub mod Gathered
pub mod WordsFile
pub mod Items
pub mod GatheredLaws
pub mod PlaceRows
