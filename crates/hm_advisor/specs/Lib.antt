pub mod Tally
pub mod Tallies
pub mod Accesses
pub mod Windows
pub mod Counts
pub mod Moves
pub mod Text
