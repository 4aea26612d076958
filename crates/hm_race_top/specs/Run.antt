-- All outcomes of a script's race, as a search knows them.
pub mod Races
pub mod Turns
pub mod Systems
pub mod Known
pub mod Laws
pub mod Played
