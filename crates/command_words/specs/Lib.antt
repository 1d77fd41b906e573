pub mod Table
pub mod Given
pub mod Arguments
pub mod Accepted
pub mod CommandLine
pub mod Parser
