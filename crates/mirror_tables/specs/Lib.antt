pub mod Blocks
pub mod Places
pub mod Entries
pub mod Directory
