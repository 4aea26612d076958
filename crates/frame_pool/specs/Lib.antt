pub mod Bits
pub mod Frames
pub mod Pools
pub mod Parts
