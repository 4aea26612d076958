pub mod Sums
pub mod Owned
pub mod Marks
pub mod TurnKeeps
pub mod PassKeeps
pub mod Hands
pub mod Closing
pub mod Owns
mod AfterLooks
