pub mod Entries
pub mod Mirrors
pub mod Shown
