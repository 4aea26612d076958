pub mod Numbers
pub mod Deals
pub mod Tries
pub mod Watched
pub mod Recorded
pub mod Sets
