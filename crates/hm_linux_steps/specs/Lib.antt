pub mod Changes
pub mod Found
pub mod Led
pub mod Left
pub mod Notes
pub mod Refusals
