pub mod Text
pub mod Endings
pub mod Told
pub mod Withouts
pub mod Runs
pub mod Theorem
