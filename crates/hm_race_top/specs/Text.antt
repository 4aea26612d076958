-- The outcomes of a race as text, and conditions on them.
pub mod Schedule
pub mod Text
pub mod Laws
pub mod Table
pub mod Conditions
