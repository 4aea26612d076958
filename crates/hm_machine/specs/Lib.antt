pub mod Copies
pub mod Turning
pub mod Showing
