pub mod Commands
pub mod WitnessTexts
