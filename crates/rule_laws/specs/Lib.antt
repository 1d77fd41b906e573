pub mod Law
pub mod PremisesMet
pub mod WordsWithoutFault
