pub mod Came
mod Saying
pub mod Sending
pub mod Telling
