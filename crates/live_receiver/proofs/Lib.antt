mod DeclaredLocks
mod Feeding
mod Following
mod Hearing
