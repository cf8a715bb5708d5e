pub mod Allowed
pub mod Joined
pub mod ReportTexts
pub mod Searches
mod Words
