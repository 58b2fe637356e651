-- A table as the list of its identifiers with their values, in rising order.
use Rattle.std.specs.Prelude.{ℕ, ◌⊎◌, ◌≡◌, ◌≢◌, List, [], ◌∷◌, Option, Some, None, IsSome}
use Rattle.std.specs.List.{AllByRecursion}
use Rattle.std.specs.BTreeMap.{insert_entry, is_at}
use Rattle.std.specs.Map.{lookup}
use Rattle.std.specs.Ordering.{nat_cmp}
use Rattle.slab.specs.Slab.{Slab, HasRoomFor, get}
use Rattle.tftp_wire.specs.declared.packet.Packet.{Packet}
use Rattle.tftp_ends.specs.declared.endpoint.Endpoint.{Endpoint}
use Rattle.tftp_server.specs.State.{TransferState, Repeats}

-- an entry before the others, if its key has a value
abbrev pub with_found : {T : Type 0} → ℕ → Option T → List (ℕ × T) → List (ℕ × T)
with_found tid None others = others
with_found tid (Some value) others = (tid, value) ∷ others

-- the values under the keys of the index
abbrev pub joined : {T : Type 0} → List (ℕ × ℕ) → Slab T → List (ℕ × T)
joined [] slots = []
joined (e ∷ index) slots = with_found e.0 (get slots e.1) (joined index slots)

-- each key of the index has a value, and no two identifiers share one
abbrev pub IsJoined : {T : Type 0} → List (ℕ × ℕ) → Slab T → Type 0
IsJoined [] slots = Unit {0}
IsJoined (e ∷ index) slots =
    IsSome (get slots e.1) × AllByRecursion (λ f. f.1 ≢ e.1) index × IsJoined index slots

-- the key that a look-up in the index found, or a vacant one if it found none
abbrev pub IsKeyFor : {T : Type 0} → Option ℕ → ℕ → Slab T → Type 0
IsKeyFor None key slots = get slots key ≡ None
IsKeyFor (Some found) key slots = key ≡ found

-- there is an open transfer under a key, and it was requested from this endpoint by this packet
abbrev pub KeyRepeats : {F D : Type 0} → Endpoint → Packet → Option (TransferState F D) → Type 0
KeyRepeats from packet None = ⊥
KeyRepeats from packet (Some held) = Repeats from packet held

-- one of the transfers under the keys was so requested
abbrev pub AnyKeyRepeats : {F D : Type 0} → Endpoint → Packet → Slab (TransferState F D) → List ℕ
    → Type 0
AnyKeyRepeats from packet slots [] = ⊥
AnyKeyRepeats from packet slots (key ∷ keys) =
    KeyRepeats from packet (get slots key) ⊎ AnyKeyRepeats from packet slots keys

-- capacity is reserved for a value at an identifier that holds none: the index has its key, and the
-- slot is free
pub record IsSpot {T : Type 0} (tid : ℕ) (held : List (ℕ × T)) (index : List (ℕ × ℕ))
    (slots : Slab T) : Type 0 where
  pub before : List (ℕ × ℕ)
  pub is_joined : IsJoined before slots
  pub holds : joined before slots ≡ held
  pub absent : lookup (is_at (nat_cmp tid)) before ≡ None
  pub grown : index ≡ insert_entry nat_cmp before tid slots.vacant_key
  pub room : HasRoomFor slots 1
