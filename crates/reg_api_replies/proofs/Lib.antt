pub mod EntryFacts
pub mod Joined
pub mod Statuses
pub mod Some
