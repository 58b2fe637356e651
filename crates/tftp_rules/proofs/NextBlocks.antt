-- The next block of a text: how long it is, and that it can be read.
-- For StorableBlocks, and for the laws of worlds (tftp_player).
use Rattle.std.proofs.lemmas.Grind.{common_steps as std_common_steps}
use Rattle.std.proofs.Common.{arith as std_arith}
use Rattle.tftp_rules.proofs.Common.{◌≡◌, List, refl, sym, true, [], false, ℕ, rules, ◌∷◌, arith, ◌∙◌, Bool, ◌++◌}
use Rattle.tftp_rules.proofs.Common.{subst, length, ◌+◌, ◌<◌, ◌≤◌, inl, ◌*◌, not, drop, std_rules, common_steps}
use Rattle.tftp_rules.proofs.Common.{append-nil, nat_lt, ◌&&◌, ◌⊎◌, Mode, Octet, Netascii, block, block_count, Fits}
use Rattle.tftp_rules.proofs.Common.{wire_text, netascii_text, is_readable, ends_in_cr, begins_front}
use Rattle.tftp_file.proofs.BlockLemmas.{last_short, others_full}
use Rattle.tftp_ends.specs.Text.{begins_netascii}
use Rattle.tftp_ends.proofs.TextLemmas.{decoded_begins, decoded_ends}
use Rattle.tftp_rules.proofs.Blocks.{length-block}
use Rattle.tftp_rules.proofs.HostBytes.{wire_prefix}
use Rattle.tftp_file.proofs.LengthLemmas.{wire-append}

-- of two numbers one is smaller, or they are in order
pub less : (a b : ℕ) → (b < a) ⊎ (a ≤ b)
less a b = search rules

-- a prefix of a text in netascii can be read
begins_text : (text rest more : List ℕ) → text ++ rest ≡ netascii_text more → begins_netascii text ≡ true
begins_text text rest more e =
    let b = begins_front text rest (more, [], (inl refl, e ∙ sym (append-nil (netascii_text more)))) in
    decoded_begins [] text b.0 b.1 b.2

-- a whole text does not end in a CR
ends_text : (text more : List ℕ) → text ≡ netascii_text more → ends_in_cr text ≡ false
ends_text text more e = decoded_ends [] text more [] (inl refl, e ∙ sym (append-nil (netascii_text more)))

drop_front : (xs ys zs : List ℕ) → xs ++ ys ≡ xs ++ zs → ys ≡ zs
drop_front [] ys zs e = e
drop_front (x ∷ xs) ys zs e = drop_front xs ys zs (let f : x ∷ (xs ++ ys) ≡ x ∷ (xs ++ zs) = e in cc)

readable_by : (last : Bool) (begins ends : Bool) → begins ≡ true → (last ≡ true → ends ≡ false) →
    (begins && not (last && ends)) ≡ true
readable_by last begins ends b e = search rules

-- the next piece of the text of a file can be read
pub piece_readable : (mode : Mode) (file stored held piece rest : List ℕ) (last : Bool) →
    ((wire_text mode stored ++ held) ++ piece) ++ rest ≡ wire_text mode file → (last ≡ true → rest ≡ []) →
    is_readable mode held piece last ≡ true
piece_readable Octet file stored held piece rest last e none = refl
piece_readable Netascii file stored held piece rest last e none =
    let t = held ++ piece in
    let joined : netascii_text stored ++ (t ++ rest) ≡ netascii_text file = grind (arith, common_steps) in
    let more = wire_prefix Netascii stored file (t ++ rest, joined) in
    let whole_is : t ++ rest ≡ netascii_text more.0 =
    grind (std_arith, std_common_steps, drop_front, netascii_text, wire-append) in
    search (std_rules, readable_by, begins_text, ends_text, append-nil)

-- ---- how long a block is
module _ (text : List ℕ) (size : ℕ) (positive : 0 < size) (fits : Fits text size) where
  -- the blocks of a text that fits are numbered by 16 bits
  pub numbered : block_count text size ≤ 65535
  numbered = search rules

  -- every block before the last is full
  pub block_full : (n : ℕ) → n + 1 < block_count text size → length (block text size (n + 1)) ≡ size
  block_full n l = others_full text size positive (n + 1) (omega arith) l

  -- the last block is shorter than the others
  pub block_last : (n : ℕ) → n + 1 ≡ block_count text size → length (block text size (n + 1)) < size
  block_last n e = subst (λ (k : ℕ). length (block text size k) < size) (sym e) (last_short text size positive)

  -- no block is longer than the block size
  pub block_within : (n : ℕ) → n + 1 ≤ block_count text size → length (block text size (n + 1)) ≤ size
  block_within n l = let e = length-block text n size in omega (arith, e)

  -- a full block is never the last that could be numbered
  pub never_long : (n : ℕ) → n + 1 ≤ block_count text size → n + 1 ≡ 65535 → length (block text size (n + 1)) ≡ size → ⊥
  never_long n l e full = search (rules, numbered, block_last)

  -- after a short block nothing is left
  pub last_rest : (n : ℕ) → nat_lt (length (block text size (n + 1))) size ≡ true → drop ((n + 1) * size) text ≡ []
  last_rest n e = grind (arith, common_steps)
