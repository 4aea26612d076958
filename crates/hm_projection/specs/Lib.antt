pub mod Tables
pub mod Told
pub mod Traces
pub mod Writes
pub mod Runs
pub mod Theorem
