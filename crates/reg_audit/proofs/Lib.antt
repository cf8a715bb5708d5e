pub mod Genuine
pub mod Kept
pub mod Orders
pub mod SameIds
pub mod Scopes
pub mod Sets
pub mod Stems
mod Words
