pub mod OptionsLemmas
pub mod NegotiationLemmas
pub mod SpellingLemmas
pub mod PolicyLemmas
pub mod LawsLemmas
pub mod KeptLemmas
