pub mod WorldValue
pub mod Stands
pub mod Fits
pub mod Noted
pub mod Mirrored
pub mod Bytes
