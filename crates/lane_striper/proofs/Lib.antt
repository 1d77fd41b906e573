mod Begun
mod Back
