-- The phases that an end enters without use of a file.
use Rattle.std.specs.Prelude.{true, Option}
use Rattle.tftp_ends.specs.declared.outcome.Outcome.{Outcome}
use Rattle.tftp_ends.specs.declared.outcome.Outcome.TheVariants as outcomes
use Rattle.tftp_ends.specs.declared.phase.Dally.TheVariants.{Waited}
use Rattle.tftp_ends.specs.declared.phase.Phase.{Phase}
use Rattle.tftp_ends.specs.declared.phase.Phase.TheVariants.{Dallying, Closed}
use Rattle.tftp_ends.specs.declared.phase.Terms.{Terms}
use Rattle.tftp_ends.specs.End.{terms_of, number_of, is_complete}

-- closed, with the terms as they are
abbrev pub closed : Outcome → Phase → Phase
closed outcome phase = Closed (terms_of phase) (number_of phase) (is_complete phase) outcome

-- closed, with these terms
abbrev pub refused : Option Terms → Outcome → Phase → Phase
refused terms outcome phase = Closed terms (number_of phase) (is_complete phase) outcome

-- closed as complete, when the last block is acknowledged
abbrev pub completed : Phase → Phase
completed phase = Closed (terms_of phase) (number_of phase) true outcomes.Complete

-- a dally after its first timeout
abbrev pub waited : Phase → Phase
waited (Dallying terms number dally) = Dallying terms number Waited
waited phase = phase
