mod Moves
mod Frames
