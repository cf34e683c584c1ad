mod Chunks
mod Inputs
mod Kept
mod Passed
