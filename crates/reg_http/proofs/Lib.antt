pub mod Exchanged
pub mod Kept
pub mod Outcomes
pub mod Requests
pub mod Steps
pub mod Trails
mod Words
