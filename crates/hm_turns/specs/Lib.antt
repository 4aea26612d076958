pub mod Touching
pub mod Stepping
pub mod Sights
pub mod Ruled
pub mod Held
pub mod Seats
pub mod Looking
