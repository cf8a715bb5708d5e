pub mod Answering
pub mod Exchanges
pub mod Serving
pub mod Streams
pub mod Trails
