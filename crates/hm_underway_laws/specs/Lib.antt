pub mod Refused
pub mod Busy
pub mod Invalidating
pub mod Upgraded
