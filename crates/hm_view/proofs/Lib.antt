pub mod Texts
pub mod Told
pub mod Going
mod Users
