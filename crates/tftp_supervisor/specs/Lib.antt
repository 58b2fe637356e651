pub mod EventRef
pub mod Lines
pub mod Output
pub mod PassedOn
pub mod ProcessEvent
pub mod Watching
