pub mod WordsAgain
pub mod KindsAgain
pub mod LineAgain
pub mod InRange
pub mod TextLines
pub mod Following
pub mod Exact
pub mod Reports
