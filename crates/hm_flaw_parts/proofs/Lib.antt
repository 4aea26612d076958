pub mod Marking
pub mod Telling
mod Alike
pub mod Systems
pub mod MarkedTurns
pub mod Turns
mod Unbroken
pub mod BrokenTurns
mod Searched
mod Rightly
