-- What an event adds to all that was sent.
use Rattle.std.specs.Prelude.{◌≡◌, ◌≤◌, List, ◌++◌, length}
use Rattle.tftp_player.specs.Common.{Datagram, Event, Report}
use Rattle.tftp_player.specs.World.{WorldState}
use Rattle.tftp_player.specs.WorldSteps.{WorldStep}

-- at most one datagram was appended to all that was sent, and none was removed
pub record AddsOneAtMost (old new : WorldState) : Type 0 where
  pub said : List Datagram
  pub few : length said ≤ 1
  pub sent : new.sent ≡ old.sent ++ said

-- each event adds one at most
abbrev pub EventsAddOneAtMost : Type 0
EventsAddOneAtMost =
    (old new : WorldState) (event : Event) (report : Report) → WorldStep old event report new
    → AddsOneAtMost old new
