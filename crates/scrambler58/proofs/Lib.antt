mod Joined
mod Whole
