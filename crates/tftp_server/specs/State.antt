-- The state of a server: its configuration, its store, and the transfers that it holds.
use Rattle.std.specs.Prelude.{ℕ, ◌≡◌, ◌⊎◌, ◌↔◌, IsTrue, Bool, false, not, List, [], ◌∷◌, Option}
use Rattle.std.specs.Prelude.{Some, None, is_some, if◌then◌else◌}
use Rattle.std.specs.BTreeMap.{insert_entry, is_at}
use Rattle.std.specs.Ordering.{nat_cmp}
use Rattle.std.specs.Map.{lookup, remove_entry, set_value}
use Rattle.tftp_wire.specs.Spelling.{Spells}
use Rattle.tftp_wire.specs.declared.packet.Packet.{Packet}
use Rattle.tftp_file.specs.declared.files.Files.{Files}
use Rattle.tftp_file.specs.declared.files.Files.TheVariants.{Source, Sink}
use Rattle.tftp_ends.specs.declared.endpoint.Endpoint.{Endpoint}
use Rattle.tftp_ends.specs.declared.record.Record.{Record}
use Rattle.tftp_ends.specs.End.{EndState, record_of, outcome_of}
use Rattle.tftp_server.specs.declared.config.Config.{Config}

-- a held transfer: its end, its source or draft, the path of the file, and the datagram of the
-- request
pub record TransferState (F D : Type 0) : Type 0 where
  pub end : EndState
  pub files : Files F D
  pub path : List ℕ
  pub request : List ℕ

-- a server; its transfers are in rising order of identifier
pub record ServerState (S F D : Type 0) : Type 0 where
  pub config : Config
  pub store : S
  pub held : List (ℕ × TransferState F D)

module _ {F D : Type 0} where
  -- the transfer has closed
  abbrev pub is_closed : TransferState F D → Bool
  is_closed held = is_some (outcome_of held.end.position.phase)

  -- there is a transfer, and it is open
  abbrev pub is_open : Option (TransferState F D) → Bool
  is_open None = false
  is_open (Some held) = not (is_closed held)

  -- the draft of a transfer that stores, from its files and from the transfer
  abbrev pub draft_of : Files F D → Option D
  draft_of (Source source) = None
  draft_of (Sink draft) = Some draft

  abbrev pub draft_at : Option (TransferState F D) → Option D
  draft_at None = None
  draft_at (Some held) = draft_of held.files

  -- the identifier and the record of each open transfer
  abbrev pub open_records : List (ℕ × TransferState F D) → List (ℕ × Record)
  open_records [] = []
  open_records (e ∷ held) =
      if is_closed e.1 then open_records held
      else (e.0, record_of e.1.end) ∷ open_records held

  -- what `take_closed` returns of a transfer: nothing unless it is closed
  abbrev pub taken_of : Option (TransferState F D) → Option (Record × Option D)
  taken_of None = None
  taken_of (Some held) =
      if is_closed held then Some (record_of held.end, draft_of held.files) else None

-- a transfer that is not excluded, as a closed one is, was requested from this endpoint, its peer,
-- by a datagram that spells this packet; the case of the mode's letters is not part of a packet
pub record WasRequested (excluded : Bool) (known : Option Endpoint) (bytes : List ℕ)
    (from : Endpoint) (packet : Packet) : Type 0 where
  pub still : excluded ≡ false
  pub peer : known ≡ Some from
  pub same : Spells packet bytes

module _ {T : Type 0} where
  -- it holds of one of them
  abbrev pub AnyByRecursion : (T → Type 0) → List T → Type 0
  AnyByRecursion Holds [] = ⊥
  AnyByRecursion Holds (x ∷ xs) = Holds x ⊎ AnyByRecursion Holds xs

  -- whether a datagram repeats the request of one of them
  abbrev pub RepeatsOne : (Packet → T → Type 0) → Bool → Option Packet → List T → Type 0
  RepeatsOne Asked repeated None xs = repeated ≡ false
  RepeatsOne Asked repeated (Some packet) xs = IsTrue repeated ↔ AnyByRecursion (Asked packet) xs

module _ {F D : Type 0} where
  -- an open transfer was requested from this endpoint by a datagram that spells this packet
  abbrev pub Repeats : Endpoint → Packet → TransferState F D → Type 0
  Repeats from packet held =
      WasRequested (is_closed held) (record_of held.end).peer held.request from packet

  -- one of the transfers was so requested
  abbrev pub AnyRepeats : Endpoint → Packet → List (ℕ × TransferState F D) → Type 0
  AnyRepeats from packet held = AnyByRecursion (λ e. Repeats from packet e.1) held

  -- whether a datagram repeats the request of an open transfer
  abbrev pub IsRepeated : Bool → Endpoint → Option Packet → List (ℕ × TransferState F D) → Type 0
  IsRepeated repeated from decoded held =
      RepeatsOne (λ packet e. Repeats from packet e.1) repeated decoded held

module _ {T : Type 0} where
  -- the transfer at an identifier
  abbrev pub at : ℕ → List (ℕ × T) → Option T
  at tid held = lookup (is_at (nat_cmp tid)) held

  -- the transfers with a new one
  abbrev pub with_new : ℕ → T → List (ℕ × T) → List (ℕ × T)
  with_new tid transfer held = insert_entry nat_cmp held tid transfer

  -- the transfers with this one at the identifier instead
  abbrev pub with_next : ℕ → T → List (ℕ × T) → List (ℕ × T)
  with_next tid transfer held = set_value (is_at (nat_cmp tid)) held transfer

  -- the transfers without the one at the identifier
  abbrev pub without : ℕ → List (ℕ × T) → List (ℕ × T)
  without tid held = remove_entry (is_at (nat_cmp tid)) held
