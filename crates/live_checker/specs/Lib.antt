pub mod Live
pub mod States
pub mod Standing
pub mod Calls
pub mod Laws
pub mod CallLists
pub mod Examples
