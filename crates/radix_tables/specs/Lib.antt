pub mod Walks
pub mod Rows
pub mod Heads
pub mod HeadsShown
pub mod RowsShown
pub mod Levels
pub mod Maps
pub mod Radixes
