-- The length of the file that a packet states, for C (RFC 2349, "Transfer Size Option Specification").
use Rattle.std.specs.Prelude.{ℕ, ◌≡◌, List, Option, Some, None}
use Rattle.tftp_wire.specs.Spelling.{Spells}
use Rattle.tftp_wire.specs.declared.options.RawOption.{RawOption}
use Rattle.tftp_wire.specs.declared.packet.Packet.{Packet}
use Rattle.tftp_negotiate.specs.Agreement.{stated_tsize}
use Rattle.tftp_ends.specs.End.{record_of}
use Rattle.tftp_ends.specs.declared.endpoint.Endpoint.{Endpoint}
use Rattle.tftp_c.specs.declared.client.Client.{Client}
use Rattle.tftp_c.specs.Listed.{options_of}

-- the length that some options state, if there are some
abbrev pub stated_in : Option (List RawOption) → Option ℕ
stated_in None = None
stated_in (Some options) = stated_tsize options

-- a datagram spells a packet that states this length
pub record States (datagram : List ℕ) (whole : ℕ) : Type 0 where
  pub packet : Packet
  pub spelled : Spells packet datagram
  pub stated : stated_in (options_of packet) ≡ Some whole

-- it spells none that states a length
abbrev pub StatesNone : List ℕ → Type 0
StatesNone datagram =
    (packet : Packet) → Spells packet datagram → stated_in (options_of packet) ≡ None

-- the length that a datagram states, if it states one
abbrev pub StatedBy : List ℕ → Option ℕ → Type 0
StatedBy datagram None = StatesNone datagram
StatedBy datagram (Some whole) = States datagram whole

-- what an end knows after a datagram: that by which its peer becomes known says it, and no other
-- changes it
abbrev pub Learns : Option Endpoint → Option Endpoint → List ℕ → Option ℕ → Option ℕ → Type 0
Learns None None datagram before after = after ≡ before
Learns None (Some peer) datagram before after = StatedBy datagram after
Learns (Some known) peer datagram before after = after ≡ before

-- a client of C handles a datagram, and knows the length that this one states, or what it knew
abbrev pub LearnsFrom : List ℕ → Client → Client → Type 0
LearnsFrom datagram c d =
    Learns (record_of c.end).peer (record_of d.end).peer datagram c.stated d.stated

-- a server's end of C knows the length that its first datagram states
abbrev pub KnowsFirst : Client → Type 0
KnowsFirst c = StatedBy c.end.position.last_sent c.stated
