pub mod Items
pub mod Shape
pub mod Avl
pub mod Intervals
