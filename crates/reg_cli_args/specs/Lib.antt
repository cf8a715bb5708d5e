pub mod Dashes
pub mod Grammar
pub mod Making
pub mod Orders
