pub mod Answers
pub mod Arrays
pub mod FrameTables
pub mod PagePlaces
pub mod Questions
pub mod Sparse
pub mod TableEntries
pub mod Trail
