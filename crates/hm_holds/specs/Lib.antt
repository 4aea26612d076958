pub mod Words
pub mod Holds
pub mod Orders
pub mod Held
pub mod Laws
