pub mod Data
pub mod Digits
pub mod Lines
pub mod Outcome
pub mod Show
