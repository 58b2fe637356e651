pub mod Store
pub mod Drafts
pub mod Memory
pub mod FaultStore
