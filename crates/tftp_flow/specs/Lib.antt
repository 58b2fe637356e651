pub mod CapturedTransfer
pub mod DataLine
pub mod Flow
