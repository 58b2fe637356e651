-- The event that random words draw: a delivery of any datagram, or a timeout of any end.
use Rattle.std.specs.Prelude.{ℕ, ◌+◌, ◌%◌, nat_lt, nat_eq, if◌then◌else◌, length, Option, Some}
use Rattle.std.specs.Prelude.{None}
use Rattle.tftp_player.specs.Common.{Event, Deliver, Timeout}
use Rattle.rand_pcg.specs.Lcg.{Lcg}
use Rattle.rand_pcg.specs.Pcg.{pcg32}
use Rattle.tftp_player.specs.World.{WorldState}

-- six words in eight deliver a datagram, the others are a timeout; no event if no end was opened
abbrev pub drawn : WorldState → (kind index : ℕ) → Option Event
drawn w kind index =
    if nat_eq (length w.ends) 0 then None
    else if nat_lt (kind % 8) 6 then Some (Deliver (index % length w.sent))
    else Some (Timeout (1024 + index % length w.ends))

-- the generator after it: two words were drawn, or none if no end was opened
abbrev pub words_drawn : WorldState → Lcg → Lcg
words_drawn w g = if nat_eq (length w.ends) 0 then g else (pcg32 (pcg32 g).1).1
