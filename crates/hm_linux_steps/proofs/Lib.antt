pub mod Left
pub mod Mirrors
pub mod NoneNoted
pub mod OtherLocks
pub mod Sames
pub mod Written
