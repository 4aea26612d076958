mod Quiet
pub mod Current
