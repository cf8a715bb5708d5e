pub mod Fronts
pub mod Fields
pub mod Heads
pub mod Owned
pub mod Reads
pub mod Begun
pub mod Taking
pub mod Turns
