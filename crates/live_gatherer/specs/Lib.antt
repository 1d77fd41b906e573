-- each is cited by public clauses
pub mod Numbers
pub mod Bits
pub mod Taking
pub mod Misuses
pub mod Runs
pub mod Standing
pub mod Calls
pub mod Laws
