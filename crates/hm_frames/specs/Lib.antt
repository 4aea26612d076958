pub mod Pools
pub mod Shown
