pub mod Files
pub mod Found
pub mod Lines
pub mod Streams
