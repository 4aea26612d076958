pub mod Start
pub mod Intervals
pub mod Changes
pub mod Kept
pub mod Fits
pub mod Readings
