pub mod Stretches
pub mod Bits
pub mod OnWay
pub mod Calls
pub mod CallsLaw
