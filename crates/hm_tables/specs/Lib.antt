pub mod Values
pub mod Sound
pub mod Shown
pub mod Steps
pub mod Reads
