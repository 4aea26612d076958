pub mod Upgraded
pub mod Busy
pub mod Early
pub mod Clean
pub mod Refused
pub mod Still
pub mod Invalidating
