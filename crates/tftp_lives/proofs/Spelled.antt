-- What bytes spell: which endpoint they are of, one packet at most, and a valid packet itself.
pub use Rattle.std.proofs.lemmas.Bool.{and_parts as both, not-true as not_true, not-false as not_false}
use Rattle.tftp_lives.proofs.Common.{List, ◌≡◌, ℕ, true, Some, false, refl, sym, subst, arith, ◌∙◌, ◌≤◌, Bool, length}
use Rattle.tftp_lives.proofs.Common.{true≢false, Spells, canonical, IsValid, MAX_BLOCK, Packet, Data, is_wrong_peer}
use Rattle.tftp_lives.proofs.Common.{Endpoint, Terms, rules}
use Rattle.std.specs.Str.{str_to_ascii_lowercase}
use Rattle.tftp_wire.specs.Spelling.{word_of}
use Rattle.tftp_wire.proofs.SpellingLemmas.{one_meaning}
use Rattle.tftp_ends.specs.Action.{same_endpoint}
use Rattle.tftp_ends.proofs.RowLemmas.{own_peer}

endpoint : List ℕ → ℕ → Endpoint
endpoint ip port = record { ip = ip; port = port }

same_as : (a b : Endpoint) → same_endpoint a b ≡ true → b ≡ a
unfolding endpoint
same_as a b e = search rules

-- a datagram of the peer is of the peer
pub of_peer : (t : Terms) (to from : Endpoint) → is_wrong_peer (Some t) to from ≡ false → from ≡ t.peer
of_peer t to from right = same_as t.peer from (not_false (same_endpoint t.peer from) right)

-- and one of another is not
pub of_other : {P : Type 0} (t : Terms) (to from : Endpoint) → is_wrong_peer (Some t) to from ≡ true → from ≡ t.peer → P
of_other t to from wrong is = absurd (true≢false (sym wrong ∙ own_peer t.peer from is))

-- ---- what bytes spell
-- if this holds of a packet, it does of all that its bytes spell
pub only_this : (P : Packet → Type 0) (p : Packet) (bytes : List ℕ) → Spells p bytes → P p → (q : Packet) →
    Spells q bytes → P q
only_this P p bytes s h q t = subst P (one_meaning p q bytes s t) h

lower_word : (p : Packet) → str_to_ascii_lowercase (word_of p) ≡ word_of p
lower_word p = search rules

-- a valid packet can be read
pub spelled : (p : Packet) → IsValid p → Spells p (canonical p)
spelled p valid = record { valid = valid; word = word_of p; mode = lower_word p; whole = refl }

-- ---- what can be read
-- a block with a number that is not too long
pub valid_block : (m : ℕ) (piece : List ℕ) → 1 ≤ m → m ≤ 65535 → length piece ≤ MAX_BLOCK → IsValid (Data m piece)
valid_block m piece low high short = (λ none. absurd (omega (arith, low, none)), omega (arith, high), short)
