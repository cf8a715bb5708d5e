pub mod Accounts
pub mod Tokens
pub mod Sets
pub mod Publications
