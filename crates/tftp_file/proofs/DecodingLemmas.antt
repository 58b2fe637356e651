-- The wire text that a text begins, or its first wrong byte. For `netascii.rt`, five functions, CutLemmas and
-- PrefixLemmas.
use Rattle.std.proofs.lemmas.Grind.{common_steps}
use Rattle.std.proofs.Common.{◌≡◌, ◌≢◌, ℕ, ◌+◌, ◌≤◌, List, [], ◌∷◌, ◌++◌, sym, refl, ap, ◌∙◌, subst, arith, inl, inr}
use Rattle.std.proofs.Common.{append_assoc, length, get_or, rules}
use Rattle.std.proofs.lemmas.List.{append-nil}
use Rattle.std.proofs.lemmas.Bool.{cases_eq}
use Rattle.tftp_file.specs.Netascii.{wire_byte, netascii_text}
use Rattle.tftp_file.specs.Lines.{EndsAtLine}
use Rattle.tftp_file.specs.Decoding.{IsHeldBack, DecodesPiece, IsWrong, Refuses, FirstWrong, BeginsWireText}
use Rattle.tftp_file.specs.declared.netascii.NetFault.{NetFault}
use Rattle.tftp_file.specs.declared.netascii.NetFault.TheVariants.{LoneCr, LoneLf}
use Rattle.tftp_file.proofs.NetasciiLemmas.{ByteForm, Line, Return, Itself, byte_form}

-- a CR before a byte that makes no pair with it
lone_cr : (byte : ℕ) (rest : List ℕ) → byte ≢ 10 → byte ≢ 0 → IsWrong (13 ∷ byte ∷ rest) LoneCr
lone_cr byte rest a b =
    (1, record { bytes = []; byte = byte; rest = rest; no_lf = a; no_nul = b; split = refl; offset = refl })

-- an LF at the start
lone_lf : (byte : ℕ) (rest : List ℕ) → byte ≡ 10 → IsWrong (byte ∷ rest) LoneLf
lone_lf byte rest e =
    (0, record { bytes = []; rest = rest; split = ap (λ (n : ℕ). n ∷ rest) e; offset = refl })

-- the byte after a held CR makes no pair
pub wrong_pair : (piece : List ℕ) → 1 ≤ length piece → get_or piece 0 0 ≢ 10 → get_or piece 0 0 ≢ 0
    → IsWrong (13 ∷ piece) LoneCr
wrong_pair [] l a b = absurd (omega arith)
wrong_pair (x ∷ xs) l a b = lone_cr x xs a b

-- a line byte that begins no pair
pub wrong_front : (text : List ℕ) → EndsAtLine text
    → (1 ≤ length text → get_or text 0 0 ≡ 10 → IsWrong text LoneLf)
    × (2 ≤ length text → get_or text 0 0 ≢ 10 → get_or text 1 0 ≢ 10 → get_or text 1 0 ≢ 0 → IsWrong text LoneCr)
wrong_front [] h = (λ l e. absurd (omega arith), λ l e a b. absurd (omega arith))
wrong_front (x ∷ []) h = (λ l e. lone_lf x [] e, λ l e a b. absurd (omega arith))
wrong_front (x ∷ y ∷ rest) h = (
  λ l e. lone_lf x (y ∷ rest) e,
  λ l e a b.
      elim h [
        | inl p ↦ absurd (e p)
        | inr p ↦ subst (λ (n : ℕ). IsWrong (n ∷ y ∷ rest) LoneCr) (sym p) (lone_cr y rest a b)
      ],
)

-- host bytes before a text
pub front_joins : (front bytes rest : List ℕ)
    → netascii_text front ++ (netascii_text bytes ++ rest) ≡ netascii_text (front ++ bytes) ++ rest
front_joins front bytes rest = grind (arith, common_steps)

length_joins : (front bytes : List ℕ)
    → length (netascii_text (front ++ bytes)) ≡ length (netascii_text front) + length (netascii_text bytes)
length_joins front bytes = grind (arith, common_steps)

-- a wrong byte after host bytes
pub first_wrong_after : (front text : List ℕ) (at : ℕ) (fault : NetFault) → FirstWrong text at fault
    → FirstWrong (netascii_text front ++ text) (length (netascii_text front) + at) fault
first_wrong_after front text at fault h = search (rules, front_joins, length_joins)

-- a wrong byte is wrong behind any text that is right
pub wrong_after : (front text : List ℕ) (fault : NetFault) → IsWrong text fault
    → IsWrong (netascii_text front ++ text) fault
wrong_after front text fault h = (length (netascii_text front) + h.0, first_wrong_after front text h.0 fault h.1)

-- the first wrong byte is the first, whatever follows
pub first_wrong_before : (text tail : List ℕ) (at : ℕ) (fault : NetFault) → FirstWrong text at fault
    → FirstWrong (text ++ tail) at fault
first_wrong_before text tail at fault h = grind (arith, common_steps)

-- the beginning of a text is one behind any text that is right
pub begins_after : (front text : List ℕ) → BeginsWireText text → BeginsWireText (netascii_text front ++ text)
begins_after front text h =
    (front ++ h.0, h.1, (h.2.0, ap (λ (t : List ℕ). netascii_text front ++ t) h.2.1 ∙ front_joins front h.0 h.1))

-- a text that begins with the wire text of no byte
abbrev pub Stop : List ℕ → Type 0
Stop text = (x : ℕ) (rest : List ℕ) → wire_byte x ++ rest ≡ text → ⊥

-- the empty text is read to its end
pub stop_nil : Stop []
stop_nil x rest e = search rules

-- a CR before neither LF nor zero is wrong
pub stop_lone_cr : (byte : ℕ) (text : List ℕ) → byte ≢ 10 → byte ≢ 0 → Stop (13 ∷ byte ∷ text)
stop_lone_cr byte text a b x rest e = search rules

-- so is an LF without a CR
pub stop_lf : (text : List ℕ) → Stop (10 ∷ text)
stop_lf text x rest e = search rules

-- what is held back is the beginning of a text
pub stop_held : (held : List ℕ) → IsHeldBack held → Stop held
stop_held held h = search rules

-- the wire text has one next byte
pub next_byte : (x y : ℕ) (xs ys : List ℕ) → ByteForm x → ByteForm y → wire_byte x ++ xs ≡ wire_byte y ++ ys
    → (x ≡ y) × (xs ≡ ys)
next_byte x y xs ys h4 h5 e = search rules

-- a text is the wire text of some bytes, and then a stop, in one way
pub one_way : (xs ys a b : List ℕ) → Stop a → Stop b → netascii_text xs ++ a ≡ netascii_text ys ++ b
    → (xs ≡ ys) × (a ≡ b)
one_way [] [] a b p q e = (refl, e)
one_way [] (y ∷ ys) a b p q e =
    absurd (p y (netascii_text ys ++ b) (sym (e ∙ append_assoc (wire_byte y) (netascii_text ys) b)))
one_way (x ∷ xs) [] a b p q e =
    absurd (q x (netascii_text xs ++ a) (sym (append_assoc (wire_byte x) (netascii_text xs) a) ∙ e))
one_way (x ∷ xs) (y ∷ ys) a b p q e =
    let n =
    next_byte x y (netascii_text xs ++ a) (netascii_text ys ++ b) (byte_form x) (byte_form y)
    (sym (append_assoc (wire_byte x) (netascii_text xs) a)
    ∙ (e ∙ append_assoc (wire_byte y) (netascii_text ys) b)) in
    let h = one_way xs ys a b p q n.1 in
    (ap (λ (k : ℕ). k ∷ xs) n.0 ∙ ap (λ (zs : List ℕ). y ∷ zs) h.0, h.1)

-- a text that begins a wire text has no first wrong byte
pub begins_or_wrong : (text : List ℕ) (fault : NetFault) → BeginsWireText text → IsWrong text fault → ⊥
begins_or_wrong text fault h w = search (rules, one_way, stop_held, stop_lone_cr, stop_lf)

-- the wire text that a text begins, or its first wrong byte
pub data Reading (text : List ℕ) : Type 0 where
  Begins : BeginsWireText text → Reading text
  Wrong : (fault : NetFault) → IsWrong text fault → Reading text

read_byte : (x : ℕ) (text : List ℕ) → Reading text → Reading (wire_byte x ++ text)
read_byte x text (Begins h) = Begins (rw (← append-nil (wire_byte x)) (begins_after (x ∷ []) text h))
read_byte x text (Wrong fault h) = Wrong fault (rw (← append-nil (wire_byte x)) (wrong_after (x ∷ []) text fault h))

read_on : (text : List ℕ) → (Reading text) × (Reading (13 ∷ text))
read_on [] = (Begins ([], [], (inl refl, refl)), Begins ([], 13 ∷ [], (inr refl, refl)))
read_on (x ∷ xs) =
    let h = read_on xs in (
      elim (byte_form x) [
        | Line e _ _ ↦ Wrong LoneLf (lone_lf x xs e)
        | Return e _ _ ↦ subst (λ (n : ℕ). Reading (n ∷ xs)) (sym e) h.1
        | Itself _ _ w _ ↦ subst (λ (t : List ℕ). Reading (t ++ xs)) w (read_byte x xs h.0)
      ],
      elim (cases_eq x 10) [
        | inl e ↦ subst (λ (n : ℕ). Reading (13 ∷ n ∷ xs)) (sym e) (read_byte 10 xs h.0)
        | inr a ↦ elim (cases_eq x 0) [
          | inl e ↦ subst (λ (n : ℕ). Reading (13 ∷ n ∷ xs)) (sym e) (read_byte 13 xs h.0)
          | inr b ↦ Wrong LoneCr (lone_cr x xs a b)
        ]
      ],
    )

-- each text is read to its end or to its first wrong byte
pub read : (text : List ℕ) → Reading text
read text = (read_on text).0

-- after a run of unescaped bytes and a pair
pub pair_taken : (text left run rest tail bytes : List ℕ) (byte : ℕ) → text ≡ netascii_text bytes ++ left
    → left ≡ run ++ rest → netascii_text run ≡ run → rest ≡ wire_byte byte ++ tail
    → text ≡ netascii_text (bytes ++ (run ++ byte ∷ [])) ++ tail
pair_taken text left run rest tail bytes byte e p n r = grind (arith, common_steps)

-- after a run of unescaped bytes
pub run_taken : (text left run rest bytes : List ℕ) → text ≡ netascii_text bytes ++ left → left ≡ run ++ rest
    → netascii_text run ≡ run → text ≡ netascii_text (bytes ++ run) ++ rest
run_taken text left run rest bytes e p n = grind (arith, common_steps)

-- a wrong byte after a run of unescaped bytes
pub wrong_taken : (text left run rest bytes : List ℕ) (fault : NetFault) → text ≡ netascii_text bytes ++ left
    → left ≡ run ++ rest → netascii_text run ≡ run → IsWrong rest fault → IsWrong text fault
wrong_taken text left run rest bytes fault e p n w =
    rw ((run_taken text left run rest bytes e p n)) (wrong_after (bytes ++ run) rest fault w)

-- a wrong byte is a reason to refuse
pub wrong_refuses : (text : List ℕ) (fault : NetFault) → IsWrong text fault → Refuses text fault
wrong_refuses text fault h = search rules

-- two decodings of one text are the same
pub decoded_once : (text bytes after more_bytes more_after : List ℕ) → DecodesPiece [] text bytes after
    → DecodesPiece [] text more_bytes more_after → (bytes ≡ more_bytes) × (after ≡ more_after)
decoded_once text bytes after more_bytes more_after h k = search (rules, one_way, stop_held)

-- a piece is the pair that it completes, and then the rest
pub piece_taken : (held piece first rest bytes after : List ℕ) → held ++ piece ≡ netascii_text first ++ rest
    → DecodesPiece [] rest bytes after → DecodesPiece held piece (first ++ bytes) after
piece_taken held piece first rest bytes after e d = grind (arith, common_steps)

-- a piece whose rest is decoded begins a text
pub piece_begins : (held piece first rest bytes after : List ℕ) → held ++ piece ≡ netascii_text first ++ rest
    → DecodesPiece [] rest bytes after → BeginsWireText (held ++ piece)
piece_begins held piece first rest bytes after e d =
    (first ++ bytes, after, piece_taken held piece first rest bytes after e d)

-- a piece whose rest is wrong is refused
pub piece_wrong : (held piece first rest : List ℕ) (fault : NetFault) → held ++ piece ≡ netascii_text first ++ rest
    → IsWrong rest fault → Refuses (held ++ piece) fault
piece_wrong held piece first rest fault e w =
    wrong_refuses (held ++ piece) fault (rw (e) (wrong_after first rest fault w))
