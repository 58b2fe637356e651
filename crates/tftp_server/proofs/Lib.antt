pub mod StepsLemmas
pub mod TableLemmas
mod RequestLemmas
mod RepeatLemmas
mod ShortageLemmas
mod CallersLemmas
pub mod HeldLemmas
