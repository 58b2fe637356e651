-- When transfers are safe, by a view of each end: those of the machine, of a world and of programs
-- (RFC 1350, sections 2, 4 and 6).
use Rattle.std.specs.Prelude.{◌≡◌, ℕ, Bool, true, false, List, [], length, Option, Some, None}
use Rattle.tftp_wire.specs.declared.mode.Mode.{Mode}
use Rattle.tftp_file.specs.Block.{IsPrefixOf}
use Rattle.tftp_ends.specs.declared.endpoint.Endpoint.{Endpoint}

-- what the claims on an end are about
pub record SafetyView : Type 0 where
  pub address : Endpoint
  -- it is a client's
  pub client : Bool
  -- it sends the file
  pub sender : Bool
  pub mode : Mode
  pub peer : Option Endpoint
  -- the block size, in bytes
  pub size : ℕ
  pub complete : Bool
  -- what a sender sends
  pub sent : List ℕ
  -- how long that is, as it was measured
  pub length : ℕ
  -- what a receiver has of it
  pub has : List ℕ
  -- a receiver has committed what it has
  pub committed : Bool

module _ {E : Type 0} (view : E → SafetyView) (IsEnd : E → Type 0) where
  -- y is an end at this endpoint, and sends in this mode
  pub record IsSenderAt (a : Endpoint) (m : Mode) (y : E) : Type 0 where
    pub is_end : IsEnd y
    pub address : (view y).address ≡ a
    pub sends : (view y).sender ≡ true
    pub mode : (view y).mode ≡ m

  -- y is an end at this endpoint, is complete, and has the other endpoint as its peer
  pub record IsCompleteAt (a other : Endpoint) (y : E) : Type 0 where
    pub is_end : IsEnd y
    pub address : (view y).address ≡ a
    pub peer : (view y).peer ≡ Some other
    pub complete : (view y).complete ≡ true

  -- the transfers are safe; of a peer that is a stranger nothing is claimed
  pub record AreSafe (IsOurs : Endpoint → Type 0) : Type 0 where
    -- two ends that are each other's peers have one block size
    pub same_size : (x y : E) → IsEnd x → IsEnd y → (view x).peer ≡ Some (view y).address →
        (view y).peer ≡ Some (view x).address → (view x).size ≡ (view y).size
    -- the peer of a client is no stranger: only an end of the server has such a peer
    pub ours : (x : E) (p : Endpoint) → IsEnd x → (view x).client ≡ true →
        (view x).peer ≡ Some p → IsOurs p
    -- a receiver without a peer has nothing
    pub is_empty : (x : E) → IsEnd x → (view x).sender ≡ false → (view x).peer ≡ None →
        (view x).has ≡ []
    -- what a receiver has is a prefix of what its peer sends
    pub is_prefix : (x : E) (p : Endpoint) → IsEnd x → (view x).sender ≡ false →
        (view x).peer ≡ Some p → IsOurs p →
        (y : E) × IsSenderAt p (view x).mode y × IsPrefixOf (view x).has (view y).sent
    -- a receiver that is complete has committed what it has
    pub is_committed : (x : E) → IsEnd x → (view x).sender ≡ false → (view x).complete ≡ true →
        (view x).committed ≡ true
    -- and that is all that its peer sends, which is as long as it was measured; the peer has it as
    -- its own peer
    pub is_whole : (x : E) → IsEnd x → (view x).sender ≡ false → (view x).complete ≡ true →
        (p : Endpoint) × ((view x).peer ≡ Some p)
        × (IsOurs p → (y : E) × IsSenderAt p (view x).mode y
        × ((view y).peer ≡ Some (view x).address) × ((view x).has ≡ (view y).sent)
        × (length (view y).sent ≡ (view y).length))
    -- a sender that is complete has a peer that is complete, and has it as its own peer
    pub sender_last : (x : E) → IsEnd x → (view x).sender ≡ true → (view x).complete ≡ true →
        (p : Endpoint) × ((view x).peer ≡ Some p)
        × (IsOurs p → (y : E) × IsCompleteAt p (view x).address y)
