pub mod After
pub mod Ascending
pub mod Lists
