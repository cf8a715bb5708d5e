pub mod FrameFacts
mod Taken
pub mod Verdicts
