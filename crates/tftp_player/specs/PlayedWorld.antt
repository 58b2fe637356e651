-- What the struct that plays a world holds.
use Rattle.std.specs.Prelude.{◌≡◌, ◌≤◌, length, Bool, true, false, ◌||◌}
use Rattle.tftp_player.specs.Common.{Event, Stray}
use Rattle.tftp_player.specs.World.{WorldState}
use Rattle.tftp_player.specs.WorldKept.{Refines}
use Rattle.tftp_player.specs.WorldSafety.{HasPeersAtHome}

-- a world, and whether a datagram of neither host has arrived in it
pub record PlayedWorld : Type 0 where
  pub state : WorldState
  pub strayed : Bool

-- each end that was opened has sent a datagram
abbrev pub HasSentEach : WorldState → Type 0
HasSentEach w = length w.ends ≤ length w.sent

-- the event is a datagram of neither host
abbrev pub is_stray : Event → Bool
is_stray (Stray from to bytes) = true
is_stray event = false

-- one has arrived, or the event is one
abbrev pub strayed_after : Bool → Event → Bool
strayed_after strayed event = strayed || is_stray event

-- without strays every peer is at one of the two hosts, so that each claim holds of every peer
abbrev pub IsHome : PlayedWorld → Type 0
IsHome w = w.strayed ≡ false → HasPeersAtHome w.state

-- a world that was played: the premise of the laws on worlds
abbrev pub WasPlayed : PlayedWorld → Type 0
WasPlayed w = Refines w.strayed w.state
