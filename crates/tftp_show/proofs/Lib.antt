pub mod DataLemmas
pub mod DigitsLemmas
pub mod LinesLemmas
pub mod ShowLemmas
