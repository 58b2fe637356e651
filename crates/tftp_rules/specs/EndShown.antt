-- A step of an open end, as rules of the guarded machine.
use Rattle.std.specs.Prelude.{◌≡◌, ℕ, true, false, List, [], ◌∷◌, ◌++◌, ◌⊎◌, Option, Some, None}
use Rattle.std.specs.Prelude.{is_some, slice_get, slice_set}
use Rattle.std.specs.List.{Contains}
use Rattle.tftp_wire.specs.declared.packet.Packet.{Packet as WirePacket}
use Rattle.tftp_wire.specs.Spelling.{Spells}
use Rattle.tftp_file.specs.declared.files.Files.{Files}
use Rattle.tftp_file.specs.Sink.{Holding}
use Rattle.tftp_ends.specs.End.{is_complete, outcome_of}
use Rattle.tftp_ends.specs.Step.{Turn, Reply, DatagramStep, timeout_turn}
use Rattle.tftp_rules.specs.EndKept.{EndKept, IsFromServer}
use Rattle.tftp_rules.specs.KnownFiles.{known_source, known_sink}
use Rattle.tftp_rules.specs.Machine.{Endpoint, Message, Network}
use Rattle.tftp_rules.specs.OpenEnds.{OpenEnd, files_of, end_after, open_view}
use Rattle.tftp_rules.specs.Rules.{Rule, message}
use Rattle.tftp_rules.specs.Said.{said}
use Rattle.tftp_rules.specs.Shows.{EndView, IsShownAt, IsShownWithin}

-- what an answer says
abbrev pub Replies : Endpoint → Option Reply → List Message → Type 0
Replies from None said_now = said_now ≡ []
Replies from (Some reply) said_now =
    (p : WirePacket) × Spells p reply.bytes × (said_now ≡ message from reply.to (said p) ∷ [])

-- the last datagram sent is unchanged, or is the answer
abbrev pub Newest : OpenEnd → Turn → OpenEnd → Type 0
Newest x turn y =
    ((y.state.position.last_sent_to ≡ x.state.position.last_sent_to)
    × (y.state.position.last_sent ≡ x.state.position.last_sent))
    ⊎ (turn.reply ≡
    Some (record { to = y.state.position.last_sent_to; bytes = y.state.position.last_sent }))

-- what a message of this datagram is there
abbrev pub IsThere : List Message → Endpoint → Endpoint → List ℕ → Type 0
IsThere messages from to bytes =
    (p : WirePacket) × Spells p bytes × Contains messages (message from to (said p))

-- what these bytes spell came from there
abbrev pub HasArrived : List Message → Endpoint → Endpoint → List ℕ → Type 0
HasArrived messages from to bytes =
    (p : WirePacket) → Spells p bytes → Contains messages (message from to (said p))

module _ (network : Network) where
  -- the end e is at index k of views that refine a machine
  pub record Stands (first : List Rule) (views : List EndView) (messages : List Message) (k : ℕ)
      (e : EndView) : Type 0 where
    pub shown : IsShownAt network first views messages
    pub viewed : slice_get views k ≡ Some e

  -- an open end at index k of such views
  pub record IsOpenAt (first : List Rule) (views : List EndView) (messages : List Message) (k : ℕ)
      (x : OpenEnd) : Type 0 where
    pub stands : Stands first views messages k (open_view x)
    pub kept : EndKept network x
    pub still : is_some (outcome_of x.state.position.phase) ≡ false
    -- its last datagram was sent
    pub last_sent : IsThere messages x.address x.state.position.last_sent_to
        x.state.position.last_sent

  -- after a step of the end x at index k, which leaves y, views and messages refine the machine
  -- after at most three more rules
  pub record Goes (first : List Rule) (views : List EndView) (messages : List Message) (k : ℕ)
      (x : OpenEnd) (turn : Turn) (y : OpenEnd) : Type 0 where
    pub said_now : List Message
    pub shown : IsShownWithin network 3 first (slice_set views k (open_view y))
        (messages ++ said_now)
    pub replies : Replies x.address turn.reply said_now
    pub kept : EndKept network y
    pub side : y.state.role.side ≡ x.state.role.side
    pub last_sent : Newest x turn y
    -- once it is complete, what it has stored is unchanged
    pub stored : is_complete x.state.position.phase ≡ true → y.stored ≡ x.stored

  -- so they do after the step of an open end for a datagram, with a file of known content
  abbrev pub DatagramTurnsAreShown : Type 0
  DatagramTurnsAreShown =
      (first : List Rule) (views : List EndView) (messages : List Message) (k : ℕ) (x : OpenEnd)
      (from : Endpoint) (bytes : List ℕ) (turn : Turn) (held : Files (List ℕ) Holding) →
      IsOpenAt first views messages k x → HasArrived messages from x.address bytes →
      IsFromServer network x from bytes →
      DatagramStep known_source known_sink from bytes x.state (files_of x) turn held →
      Goes first views messages k x turn (end_after x turn held)

  -- and after its step for a timeout
  abbrev pub TimeoutTurnsAreShown : Type 0
  TimeoutTurnsAreShown =
      (first : List Rule) (views : List EndView) (messages : List Message) (k : ℕ) (x : OpenEnd) →
      IsOpenAt first views messages k x →
      Goes first views messages k x (timeout_turn x.state)
      (end_after x (timeout_turn x.state) (files_of x))
