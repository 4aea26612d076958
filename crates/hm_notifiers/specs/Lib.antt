pub mod NotifiersValue
pub mod Shown
