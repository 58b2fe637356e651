pub mod ChangingLemmas
mod ApartLemmas
mod HeldLemmas
mod InsideLemmas
mod LeavesLemmas
mod LockLemmas
mod MakingLemmas
mod NamingLemmas
mod PlacedLemmas
mod ReachedLemmas
pub mod SourceLemmas
pub mod StoredLemmas
mod UploadLemmas
mod WrittenLemmas
