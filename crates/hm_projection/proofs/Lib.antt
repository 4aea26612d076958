pub mod Parts
pub mod Erased
pub mod Going
pub mod Texts
pub mod Called
mod Users
