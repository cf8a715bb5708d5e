pub mod Plain
pub mod Search
