pub mod Exploring
mod Coming
mod Chains
mod Table
pub mod Unrolled
mod Steps
