-- Races of a driver with a flaw, as systems that are searched, and what a search says of them.
pub mod Races
pub mod Judging
pub mod Shortest
pub mod Laws
