pub mod Places
pub mod Kept
pub mod Joined
pub mod Whole
pub mod Changes
