-- The words of a search for races of drivers with a flaw, and the texts of what it has found.
pub mod Names
pub mod Tasks
pub mod Lines
pub mod Table
