-- The numbers of the outcomes, and their words.
use Rattle.std.specs.Prelude.{ℕ, List, ◌++◌, codes, decimal}
use Rattle.tftp_negotiate.specs.declared.refusal.Refusal.{Refusal}
use Rattle.tftp_negotiate.specs.declared.refusal.Refusal.TheVariants as refusals
use Rattle.tftp_ends.specs.declared.outcome.Outcome.{Outcome}
use Rattle.tftp_ends.specs.declared.outcome.Outcome.TheVariants.{Complete, TimedOut, PeerError}
use Rattle.tftp_ends.specs.declared.outcome.Outcome.TheVariants.{Illegal, Refused, TooLarge}
use Rattle.tftp_ends.specs.declared.outcome.Outcome.TheVariants.{StoreFault, SourceFault}
use Rattle.tftp_ends.specs.declared.outcome.Outcome.TheVariants.{NotNetascii}

-- the number of an outcome
abbrev pub number_of_outcome : Outcome → ℕ
number_of_outcome Complete = 1
number_of_outcome TimedOut = 2
number_of_outcome (PeerError code) = 3
number_of_outcome Illegal = 4
number_of_outcome (Refused refusal) = 5
number_of_outcome TooLarge = 6
number_of_outcome StoreFault = 7
number_of_outcome SourceFault = 8
number_of_outcome NotNetascii = 9

-- the word for a refused OACK
abbrev pub refusal_word : Refusal → List ℕ
refusal_word refusals.Repeated = codes "Repeated"
refusal_word refusals.TooLarge = codes "TooLarge"
refusal_word refusals.NotAsked = codes "NotAsked"
refusal_word refusals.BadValue = codes "BadValue"

-- the words that the programs print
abbrev pub outcome_text : Outcome → List ℕ
outcome_text Complete = codes "Complete"
outcome_text TimedOut = codes "TimedOut"
outcome_text (PeerError code) = codes "PeerError(" ++ (decimal code ++ codes ")")
outcome_text Illegal = codes "Illegal"
outcome_text (Refused refusal) = codes "Refused(" ++ (refusal_word refusal ++ codes ")")
outcome_text TooLarge = codes "TooLarge"
outcome_text StoreFault = codes "StoreFault"
outcome_text SourceFault = codes "SourceFault"
outcome_text NotNetascii = codes "NotNetascii"
