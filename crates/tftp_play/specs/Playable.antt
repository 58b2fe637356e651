-- The events of a script.
use Rattle.std.specs.Prelude.{ℕ, ◌≡◌, List}
use Rattle.tftp_player.specs.declared.event.Event.{Event}
use Rattle.tftp_player.specs.declared.event.Event.TheVariants.{Stray}
use Rattle.tftp_rules.specs.Hosts.{host_of}
use Rattle.tftp_rules.specs.Machine.{Endpoint, Elsewhere}

-- a stray datagram is of neither host
abbrev pub IsOfNeitherHost : Event → Type 0
IsOfNeitherHost event =
    (from to : Endpoint) (bytes : List ℕ) → event ≡ Stray from to bytes → host_of from ≡ Elsewhere
