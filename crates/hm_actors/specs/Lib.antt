pub mod Actors
pub mod Coming
pub mod Migrations
pub mod Rising
