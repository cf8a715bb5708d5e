pub mod Words
pub mod Views
pub mod Events
pub mod Rows
pub mod Facts
