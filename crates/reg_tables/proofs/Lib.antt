pub mod Calls
pub mod Looking
pub mod StillOpen
pub mod Stopping
