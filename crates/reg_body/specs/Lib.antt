pub mod Counting
pub mod Frames
pub mod Sent
pub mod Words
