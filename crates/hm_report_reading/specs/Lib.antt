pub mod Words
pub mod KindWords
pub mod Kinds
pub mod Fits
pub mod Entries
pub mod Texts
pub mod Reports
