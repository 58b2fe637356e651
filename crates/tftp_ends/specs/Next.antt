-- Internal to the code: the next block of a transfer.
use Rattle.std.specs.Prelude.{ℕ, ◌≡◌}
use Rattle.tftp_ends.specs.declared.action.Action.{Action}
use Rattle.tftp_ends.specs.declared.action.Action.TheVariants.{Respond, Send, Store}
use Rattle.tftp_ends.specs.declared.phase.Phase.{Phase}
use Rattle.tftp_ends.specs.declared.phase.Phase.TheVariants.{Waiting, Sending, Receiving, Dallying}
use Rattle.tftp_ends.specs.declared.phase.Phase.TheVariants.{Closed}
use Rattle.tftp_ends.specs.declared.phase.Terms.{Terms}

-- a block is sent or stored by these terms
abbrev pub IsBy : Terms → Action → Type 0
IsBy terms (Respond response) = Unit {0}
IsBy terms (Send these number) = these ≡ terms
IsBy terms (Store these number) = these ≡ terms

-- a phase with a number that the next block changes
abbrev pub HasNext : Phase → Type 0
HasNext (Waiting asked limit) = ⊥
HasNext (Sending terms number) = Unit {0}
HasNext (Receiving terms number) = Unit {0}
HasNext (Dallying terms number dally) = ⊥
HasNext (Closed terms number complete outcome) = ⊥

-- the same phase with another number
abbrev pub numbered : ℕ → Phase → Phase
numbered next (Waiting asked limit) = Waiting asked limit
numbered next (Sending terms number) = Sending terms next
numbered next (Receiving terms number) = Receiving terms next
numbered next (Dallying terms number dally) = Dallying terms number dally
numbered next (Closed terms number complete outcome) = Closed terms number complete outcome
