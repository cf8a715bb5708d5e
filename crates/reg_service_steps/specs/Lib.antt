pub mod Named
pub mod Reads
pub mod Telling
