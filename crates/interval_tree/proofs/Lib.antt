pub mod Order
pub mod Forks
pub mod Least
pub mod Index
pub mod Next
pub mod Above
pub mod Ends
