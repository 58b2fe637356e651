-- What repeats a request, by the keys of an index and by the transfers under them. For
-- `Table+Transfer+F+D::is_repeated`.
use Rattle.std.proofs.Common.{ℕ, List, [], ◌∷◌, map, Option, IsSome, rules}
use Rattle.std.specs.Prelude.{◌⊎◌}
use Rattle.slab.specs.Slab.{Slab, get}
use Rattle.tftp_wire.specs.declared.packet.Packet.{Packet}
use Rattle.tftp_ends.specs.declared.endpoint.Endpoint.{Endpoint}
use Rattle.tftp_server.specs.State.{TransferState, AnyRepeats}
use Rattle.tftp_server.specs.Table.{joined, with_found, IsJoined, KeyRepeats, AnyKeyRepeats}

module _ {F D : Type 0} (from : Endpoint) (packet : Packet) where
  found : (tid : ℕ) (o : Option (TransferState F D)) (others : List (ℕ × TransferState F D)) (rest : Type 0) →
      IsSome o →
      KeyRepeats from packet o ⊎ rest → (rest → AnyRepeats from packet others) →
      AnyRepeats from packet (with_found tid o others)
  found tid o others rest here k more = search rules

  keyed : (tid : ℕ) (o : Option (TransferState F D)) (others : List (ℕ × TransferState F D)) (rest : Type 0) →
      IsSome o →
      AnyRepeats from packet (with_found tid o others) → (AnyRepeats from packet others → rest) →
      KeyRepeats from packet o ⊎ rest
  keyed tid o others rest here k more = search rules

  -- a transfer under a key of the index is one of the table
  pub repeats_joined : (index : List (ℕ × ℕ)) (slots : Slab (TransferState F D)) → IsJoined index slots →
      AnyKeyRepeats from packet slots (map (λ e. e.1) index) → AnyRepeats from packet (joined index slots)
  repeats_joined [] slots h k = k
  repeats_joined (e ∷ index) slots h k =
      found e.0 (get slots e.1) (joined index slots) (AnyKeyRepeats from packet slots (map (λ f. f.1) index)) h.0 k
      (repeats_joined index slots h.2)

  -- and conversely
  pub joined_repeats : (index : List (ℕ × ℕ)) (slots : Slab (TransferState F D)) → IsJoined index slots →
      AnyRepeats from packet (joined index slots) → AnyKeyRepeats from packet slots (map (λ e. e.1) index)
  joined_repeats [] slots h k = k
  joined_repeats (e ∷ index) slots h k =
      keyed e.0 (get slots e.1) (joined index slots) (AnyKeyRepeats from packet slots (map (λ f. f.1) index)) h.0 k
      (joined_repeats index slots h.2)
