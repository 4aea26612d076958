pub mod Least
pub mod SpacesKept
pub mod SpacesRead
