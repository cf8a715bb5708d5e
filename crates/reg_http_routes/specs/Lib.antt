pub mod Targets
pub mod Queries
pub mod Table
pub mod Taken
pub mod Routing
pub mod Routed
