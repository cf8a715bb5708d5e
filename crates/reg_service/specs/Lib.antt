pub mod Traced
pub mod Answered
pub mod Handled
pub mod Looked
pub mod Registries
pub mod Sequences
pub mod Streamed
