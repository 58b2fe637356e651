pub mod Files
pub mod Flaw
pub mod Play
pub mod Playable
pub mod Setting
pub mod Status
