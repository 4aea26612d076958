pub mod Keys
pub mod Races
pub mod Tried
pub mod Finding
pub mod Events
pub mod Text
