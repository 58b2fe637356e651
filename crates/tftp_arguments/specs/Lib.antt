pub mod Fault
pub mod Read
pub mod Rules
pub mod Commands
pub mod Streams
