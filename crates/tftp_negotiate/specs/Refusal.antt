-- The numbers of the refusals.
use Rattle.std.specs.Prelude.{ℕ}
use Rattle.tftp_negotiate.specs.declared.refusal.Refusal.{Refusal}
use Rattle.tftp_negotiate.specs.declared.refusal.Refusal.TheVariants.{Repeated, TooLarge, NotAsked}
use Rattle.tftp_negotiate.specs.declared.refusal.Refusal.TheVariants.{BadValue}

-- the number of a refusal
abbrev pub refusal_number : Refusal → ℕ
refusal_number Repeated = 1
refusal_number TooLarge = 2
refusal_number NotAsked = 3
refusal_number BadValue = 4
