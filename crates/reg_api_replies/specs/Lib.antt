pub mod Bodies
pub mod Entries
pub mod Heads
pub mod Piled
pub mod Replies
pub mod Texts
