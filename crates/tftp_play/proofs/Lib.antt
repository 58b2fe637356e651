pub mod PlayableLemmas
pub mod ScriptLemmas
