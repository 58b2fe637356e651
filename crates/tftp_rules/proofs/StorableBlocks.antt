-- The next block of a text is stored: it is short enough, not the last but one, and readable.
-- For BlamelessActions, EndTurns and the crate tftp_player.
use Rattle.std.proofs.Common.{rules as std_rules}
use Rattle.tftp_rules.proofs.Common.{◌≡◌, List, true, false, ℕ, rules, arith, Some, ◌++◌, length, ◌+◌, ◌<◌, ◌≤◌, ◌*◌}
use Rattle.tftp_rules.proofs.Common.{drop, take, std_rules, take-append-drop, nat_lt, Mode, block, block_count, Fits}
use Rattle.tftp_rules.proofs.Common.{wire_text, is_wrong_peer, is_readable, Terms, Endpoint}
use Rattle.tftp_rules.proofs.Blocks.{take-block}
use Rattle.tftp_rules.proofs.NextBlocks.{piece_readable, block_within, never_long, last_rest}

-- the peer of an end is no wrong peer
pub the_peer : (terms : Terms) (to from : Endpoint) → is_wrong_peer (Some terms) to from ≡ false → terms.peer ≡ from
the_peer terms to from right = search rules

-- it is short enough, and can be read if what is sent is the text of a file
pub record IsStorable (IsText : Type 0) (mode : Mode) (held : List ℕ) (size number : ℕ) (piece : List ℕ) : Type 0 where
  pub within : length piece ≤ size
  pub short : number ≡ 65535 → length piece ≡ size → ⊥
  pub readable : IsText → is_readable mode held piece (nat_lt (length piece) size) ≡ true

-- the next block of what the peer sends is stored
pub storable : (IsText : Type 0) (mode : Mode) (stored held text : List ℕ) (size n : ℕ) (piece : List ℕ) → 0 < size →
    Fits text size → (IsText → (file : List ℕ) × (wire_text mode file ≡ text)) →
    wire_text mode stored ++ held ≡ take (n * size) text → n * size ≤ length text → piece ≡ block text size (n + 1) →
    IsStorable IsText mode held size (n + 1) piece
storable IsText mode stored held text size n piece positive fits file received room piece_is =
    let more : n < block_count text size = search std_rules in
    let l : n + 1 ≤ block_count text size = omega (arith, more) in
    let own = block text size (n + 1) in
    let rest = drop ((n + 1) * size) text in
    let whole : ((wire_text mode stored ++ held) ++ own) ++ rest ≡ text =
    search (std_rules, take-block, take-append-drop) in
    search (rules, block_within, never_long, piece_readable, last_rest)
