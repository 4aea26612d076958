pub mod Drain
pub mod Drains
pub mod WaysKnown
pub mod Ends
pub mod Reporting
pub mod Listed
pub mod Holding
mod Schedules
mod Led
mod Blocks
mod Texts
mod Last
mod Firsts
mod Positions
mod Ended
mod Witness
mod Right
mod Absent
mod Counted
mod Cuts
mod Connectives
mod Growing
mod Plain
mod ReadTo
pub mod Asking
pub mod Ruled
pub mod Ending
pub mod SetUps
pub mod Taking
pub mod Turning
mod Entering
mod Systems
mod Outcomes
mod Turns
mod Users
pub mod Unasked
mod Playing
