pub mod FramesRead
pub mod Listing
pub mod Naming
pub mod Ordered
pub mod Placing
pub mod TablesRead
