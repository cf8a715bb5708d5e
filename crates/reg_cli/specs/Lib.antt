pub mod Exits
pub mod Openings
pub mod Rounds
pub mod Sending
pub mod Setups
pub mod Tasks
