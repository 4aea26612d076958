pub mod FirstBad
pub mod Judged
pub mod Judging
pub mod Parts
pub mod Waiting
