mod Computed
mod Owned
mod Rightly
mod Judging
pub mod Recalling
mod Searched
mod Exact
mod ToldApart
