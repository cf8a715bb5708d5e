pub mod Parsing
pub mod Fields
pub mod Manifests
pub mod Metadata
pub mod Words
