pub mod Changed
pub mod Overlapping
pub mod Unsubscribed
