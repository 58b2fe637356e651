pub mod UtcTexts
pub mod WholeLines
