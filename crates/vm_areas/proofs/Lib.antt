pub mod Searched
pub mod Added
pub mod Cutting
