pub mod Bodies
pub mod Faults
pub mod Owners
pub mod Publish
pub mod Requests
pub mod Search
pub mod Views
pub mod Wants
