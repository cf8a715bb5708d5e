pub mod Calling
pub mod Ends
pub mod Lending
pub mod Looks
pub mod Works
