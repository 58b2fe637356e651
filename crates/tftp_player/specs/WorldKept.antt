-- The invariant of every world, which makes it safe.
use Rattle.std.specs.Prelude.{◌≡◌, ◌≢◌, ℕ, ◌+◌, ◌⊎◌, Bool, true, false, List, map, slice_get, Some}
use Rattle.std.specs.Prelude.{None, Ok}
use Rattle.std.specs.List.{Contains}
use Rattle.tftp_player.specs.Common.{Request, Spells, IsBlockSize, wire_text, path_of_name}
use Rattle.tftp_player.specs.Common.{is_sender, is_client, outcome_of, host_of, Elsewhere, OpenEnd}
use Rattle.tftp_player.specs.Common.{EndView, requested, Datagram, Endpoint}
use Rattle.tftp_wire.specs.declared.packet.Packet.{Packet as WirePacket}
use Rattle.tftp_rules.specs.EndKept.{EndKept}
use Rattle.tftp_rules.specs.Hosts.{two_hosts}
use Rattle.tftp_rules.specs.Machine.{Message}
use Rattle.tftp_rules.specs.Rules.{Rule, message}
use Rattle.tftp_rules.specs.Said.{said}
use Rattle.tftp_rules.specs.Shows.{IsShownAt, IsShown, IsShownWithin}
use Rattle.tftp_player.specs.World.{WorldState, ClosedEnd, WorldEnd, Open_end, Closed_end}
use Rattle.tftp_player.specs.World.{end_record, end_address, end_path, end_stored, file_at}
use Rattle.tftp_player.specs.World.{datagram, view_of_end, end_wire, end_mode, end_file}
use Rattle.tftp_player.specs.World.{end_request, is_closed}
use Rattle.tftp_player.specs.WorldSafety.{HasRequested}

-- what holds of an open end in its world
pub record IsOpenIn (w : WorldState) (x : OpenEnd) : Type 0 where
  pub still : outcome_of x.state.position.phase ≡ None
  pub kept : EndKept two_hosts x
  -- its last datagram was sent
  pub last_sent : Contains w.sent
      (datagram x.address x.state.position.last_sent_to x.state.position.last_sent)

-- a closed receiver has committed what it stored exactly if it is complete
abbrev pub ClosedKept : ClosedEnd → Type 0
ClosedKept x = is_sender x.recorded.side ≡ false → x.committed ≡ x.recorded.complete

-- what holds of an end, open or closed
abbrev pub StandsIn : WorldState → WorldEnd → Type 0
StandsIn w (Open_end x) = IsOpenIn w x
StandsIn w (Closed_end x) = ClosedKept x

-- a request that was sent from there opened this end of the server, for the path of its name
pub record WasAsked (w : WorldState) (from : Endpoint) (x : WorldEnd) : Type 0 where
  pub write : Bool
  pub request : Request
  pub sent : HasRequested w from write request
  pub opened : is_closed x ≡ false → Spells (requested write request) (end_request x)
  pub path : path_of_name request.name ≡ Ok (end_path x)

-- the end has a peer whose request opened it; what a stranger sent is not known
abbrev pub HasAsker : WorldState → WorldEnd → Type 0
HasAsker w x =
    (from : Endpoint) × ((end_record x).peer ≡ Some from)
    × (host_of from ≢ Elsewhere → WasAsked w from x)

-- what holds of an end in its world
pub record IsKeptIn (w : WorldState) (x : WorldEnd) : Type 0 where
  pub stands : StandsIn w x
  -- an end of the server was opened by its peer's request
  pub asked : is_client (end_record x).side ≡ false → HasAsker w x
  -- what the server sends is under its path, and so is what a complete receiver stored there,
  -- unless writes may replace files
  pub sends : w.overwrite ≡ false → is_client (end_record x).side ≡ false →
      is_sender (end_record x).side ≡ true → file_at w.files (end_path x) ≡ Some (end_file x)
  pub stored : w.overwrite ≡ false → is_client (end_record x).side ≡ false →
      is_sender (end_record x).side ≡ false → (end_record x).complete ≡ true →
      file_at w.files (end_path x) ≡ Some (end_stored x)
  -- a sender's text is that of its file
  pub text : end_wire x ≡ wire_text (end_mode x) (end_file x)

-- the datagram carries this message
pub record SaysSo (d : Datagram) (m : Message) : Type 0 where
  pub packet : WirePacket
  pub spells : Spells packet d.bytes
  pub says : m ≡ message d.from d.to (said packet)

-- who may have sent: a stranger only if there are strangers
abbrev pub MaySpeak : Bool → Endpoint → Type 0
MaySpeak strangers a = strangers ≡ false → host_of a ≢ Elsewhere

-- the end at index k has port 1024 + k
abbrev pub HasPorts : WorldState → Type 0
HasPorts w =
    (k : ℕ) (x : WorldEnd) → slice_get w.ends k ≡ Some x → (end_address x).port ≡ 1024 + k

-- the world's ends and what was sent refine the guarded machine, as `IsShownSo` says; `strangers`
-- says that an endpoint at neither host may have sent
pub record RefinesBy (IsShownSo : List EndView → List Message → Type 0) (strangers : Bool)
    (w : WorldState) : Type 0 where
  pub messages : List Message
  pub shown : IsShownSo (map view_of_end w.ends) messages
  -- each datagram that was sent is a message
  pub sent : (d : Datagram) → Contains w.sent d → (m : Message) × SaysSo d m × Contains messages m
  -- and each message was sent, or is a stranger's
  pub only : (m : Message) → Contains messages m →
      ((d : Datagram) × Contains w.sent d × SaysSo d m) ⊎ (host_of m.from ≡ Elsewhere)
  pub speakers : (m : Message) → Contains messages m → MaySpeak strangers m.from
  pub ports : HasPorts w
  pub max_block : IsBlockSize w.limits.max_block
  pub ends : (k : ℕ) (x : WorldEnd) → slice_get w.ends k ≡ Some x → IsKeptIn w x

-- they refine the machine after a legal list of rules
abbrev pub Refines : Bool → WorldState → Type 0
Refines strangers w = RefinesBy (IsShown two_hosts) strangers w

-- they refine it after these rules
abbrev pub RefinesAt : List Rule → Bool → WorldState → Type 0
RefinesAt rules strangers w = RefinesBy (IsShownAt two_hosts rules) strangers w

-- they refine it after these and `most` more at most
abbrev pub RefinesWithin : ℕ → List Rule → Bool → WorldState → Type 0
RefinesWithin most rules strangers w = RefinesBy (IsShownWithin two_hosts most rules) strangers w
