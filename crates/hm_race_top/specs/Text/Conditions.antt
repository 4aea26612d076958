-- Conditions on the outcomes of a race: their words, what outcomes say of them, and that this is right.
pub mod Meets
pub mod Judged
pub mod Laws
pub mod Grammar
pub mod Tails
pub mod Reading
pub mod Questions
pub mod Rulings
pub mod Absent
pub mod Asking
pub mod Texts
