pub mod Following
pub mod Passing
pub mod Starting
