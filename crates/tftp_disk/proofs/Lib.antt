pub mod DiskSourceLemmas
pub mod GivenLemmas
pub mod MeasuringLemmas
pub mod ReadLemmas
