-- cited by public clauses
pub mod SentWords
pub mod Stripe
pub mod StripeLaws
-- needed by private functions and proofs alone
pub mod Values
pub mod Making
