pub mod Holders
pub mod Refusals
pub mod Spaces
