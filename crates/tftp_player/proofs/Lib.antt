pub mod Common
pub mod Standing
pub mod KnownSteps
pub mod Measured
pub mod Changes
pub mod OneLemmas
pub mod StrangerLemmas
pub mod SampleDeliveries
pub mod Witness
pub mod Witnesses
pub mod SentLemmas
pub mod ServerLemmas
mod ServerTurns
pub mod DraftLemmas
pub mod StepLemmas
pub mod UnansweredLemmas
pub mod WorldTurns
pub mod WorldKeeps
pub mod WorldRuns
pub mod WorldSafe
pub mod RoomLemmas
pub mod HostEnds
pub mod PlayerLemmas
pub mod ServedLemmas
pub mod PlayLemmas
pub mod ArrivalLemmas
pub mod TermsKept
pub mod RepeatingLemmas
pub mod AskingLemmas
mod PlayedKeeps
mod StraightActions
mod StraightSteps
mod RunsLeft
mod StraightRuns
mod StraightPort
mod StraightOpenings
mod NewestKept
mod SentAgain
mod WorldFacts
mod RecoveringRuns
mod AnsweringEnds
mod RecoveringAnswers
mod RecoveriesSettled
mod RecoveringWitness
mod AnsweringWitness
mod OacksTaken
mod Blameless
mod ErrorAnswers
mod ErrorsKnown
mod ErrorsHeard
mod RefusedWitness
mod RequestArrives
mod EndsHeard
mod HeardWitness
mod RecoveringRequests
pub mod SettledLemmas
