-- What is left falls: evictions and removals.
pub mod FramesFall
pub mod OperationsFall
