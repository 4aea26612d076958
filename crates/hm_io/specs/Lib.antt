pub mod Held
pub mod Memory
pub mod Plan
pub mod Streams
