pub mod ClientOutcome
pub mod Hint
pub mod LogLine
pub mod Printed
pub mod ProgressLine
pub mod Reason
pub mod StampedLine
pub mod WholeLine
