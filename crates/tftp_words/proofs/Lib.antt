pub mod Common
pub mod ClientMade
pub mod WordsMade
pub mod LastPrograms
pub mod EndToEndMade
pub mod Following
pub mod StoresOf
pub mod FromDiskMade
pub mod PutFromDiskMade
pub mod SharedCalls
pub mod OneHasTheName
pub mod NamedPuts
pub mod SharedDraftsLemmas
mod WitnessRuns
mod WitnessSeveral
pub mod SharedWitness
