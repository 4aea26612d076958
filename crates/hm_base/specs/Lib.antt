pub mod Pages
pub mod Areas
pub mod Program
pub mod PlaceWords
pub mod Stored
