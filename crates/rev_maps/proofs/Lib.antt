pub mod Rising
pub mod Edits
