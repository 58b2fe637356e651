pub mod FaultLemmas
pub mod MemoryLemmas
