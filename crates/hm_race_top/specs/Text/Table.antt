-- The outcomes of a race as a table.
pub mod Answers
pub mod Columns
pub mod Text
