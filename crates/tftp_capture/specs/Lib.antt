pub mod Frame
pub mod Record
