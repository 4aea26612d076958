pub mod Texts
pub mod Scripts
pub mod Pieces
pub mod Answered
pub mod Dues
pub mod Outcomes
