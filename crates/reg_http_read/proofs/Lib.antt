pub mod Cuts
pub mod Digits
pub mod Following
pub mod Judged
pub mod Lists
pub mod FirstBytes
pub mod Read
pub mod Readings
pub mod Adding
pub mod Lines
pub mod Requests
pub mod Pieces
pub mod Waiting
pub mod Tallies
mod Common
