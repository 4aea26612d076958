pub mod Systems
pub mod Known
pub mod Goals
pub mod Buckets
pub mod Values
