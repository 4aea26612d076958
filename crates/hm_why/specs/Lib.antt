pub mod Sources
pub mod Laws
pub mod Changes
pub mod Writers
pub mod Follows
pub mod Loads
