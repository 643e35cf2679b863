pub mod Refusals
pub mod Frames
pub mod Read
pub mod Repeats
pub mod Answers
pub mod Walk
pub mod Lines
