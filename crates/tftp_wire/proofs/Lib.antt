pub mod TextsLemmas
pub mod OptionsLemmas
pub mod ReadingLemmas
pub mod SpellingLemmas
pub mod LineLemmas
