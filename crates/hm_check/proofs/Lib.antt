pub mod Exact
pub mod Follow
pub mod Loops
pub mod Naming
pub mod NotJudged
pub mod ReportLines
