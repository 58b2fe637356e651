mod Addresses
mod ConfiguredLemmas
mod Commands
mod HeldAtPorts
mod Keeping
mod LastParts
mod NoneStores
mod OwnDrafts
mod ProcessorCounts
mod Refusals
mod Reporting
mod Supervising
mod WithinLimits
pub mod SentFiles
pub mod WitnessFolder
pub mod WitnessServers
