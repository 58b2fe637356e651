-- How an end closes that did not give up, and that no program is to blame for.
use Rattle.std.specs.Prelude.{◌≡◌, Some, false}
use Rattle.tftp_promises.specs.Common.{EndState, is_complete, outcome_of, Outcome}
use Rattle.tftp_ends.specs.declared.outcome.Outcome.TheVariants as outcomes

-- an outcome for a file or a store that failed, an ERROR that came, or a file that is no netascii
abbrev pub IsFailure : Outcome → Type 0
IsFailure (outcomes.PeerError code) = Unit {0}
IsFailure outcomes.StoreFault = Unit {0}
IsFailure outcomes.SourceFault = Unit {0}
IsFailure outcomes.NotNetascii = Unit {0}
IsFailure outcome = ⊥

-- an outcome for an answer that an end cannot accept
abbrev pub IsRefusal : Outcome → Type 0
IsRefusal outcomes.Illegal = Unit {0}
IsRefusal outcomes.TooLarge = Unit {0}
IsRefusal (outcomes.Refused refusal) = Unit {0}
IsRefusal outcome = ⊥

-- an end has failed: it closed, incomplete, with the outcome of a failure
abbrev pub HasFailed : EndState → Type 0
HasFailed e =
    (is_complete e.position.phase ≡ false)
    × (outcome : Outcome) × (outcome_of e.position.phase ≡ Some outcome) × IsFailure outcome
