pub mod Searches
pub mod Bytes
pub mod Relocks
pub mod PoolKept
pub mod Updates
pub mod Copies
pub mod Shows
pub mod Kept
