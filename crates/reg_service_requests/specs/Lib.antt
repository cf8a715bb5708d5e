pub mod Granted
pub mod Owning
pub mod Publications
pub mod Serves
pub mod Telling
