pub mod Afterwards
pub mod ConfigText
pub mod Entries
mod Joined
pub mod Names
pub mod Owners
pub mod Placed
pub mod Running
