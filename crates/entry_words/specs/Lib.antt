pub mod Word
pub mod Reading
