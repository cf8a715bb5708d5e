pub mod CrateNames
pub mod Listed
pub mod Owned
pub mod PublicationViews
pub mod SetViews
pub mod TopVersions
mod Words
