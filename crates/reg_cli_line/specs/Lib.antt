pub mod Answers
pub mod Ends
pub mod Faults
pub mod Runs
