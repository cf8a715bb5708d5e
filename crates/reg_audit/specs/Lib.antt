pub mod Checks
pub mod Marks
