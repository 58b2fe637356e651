pub mod HandedFault
pub mod Looks
pub mod Share
