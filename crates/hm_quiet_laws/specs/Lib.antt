pub mod Rest
pub mod Keeping
pub mod Quiet
