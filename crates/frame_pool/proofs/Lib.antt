pub mod Words
pub mod Members
pub mod Overwrites
pub mod Blank
pub mod Padded
pub mod Free
