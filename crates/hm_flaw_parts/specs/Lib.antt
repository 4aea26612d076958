pub mod Races
pub mod Told
pub mod Marks
pub mod Judged
pub mod Buckets
pub mod Alike
