-- A text is decoded in the same way wherever it is cut. For `any_cut`, `one_reading` and the crate tftp_rules.
use Rattle.std.proofs.lemmas.Grind.{common_steps}
use Rattle.std.proofs.Common.{◌≡◌, ℕ, ◌+◌, ◌<◌, ◌≤◌, List, [], ◌∷◌, ◌++◌, sym, refl, ap, ◌∙◌, subst, arith, inl, inr}
use Rattle.std.proofs.Common.{append_assoc, length, rules}
use Rattle.std.specs.Prelude.{◌⊎◌}
use Rattle.std.specs.List.{concat}
use Rattle.std.proofs.lemmas.List.{append-nil, length-append}
use Rattle.tftp_file.specs.Netascii.{netascii_text}
use Rattle.tftp_file.specs.Decoding.{IsHeldBack, DecodesPiece, IsWrong, FirstWrong, BeginsWireText, TakesAll, RefusesAt}
use Rattle.tftp_file.specs.declared.netascii.NetFault.{NetFault}
use Rattle.tftp_file.proofs.DecodingLemmas.{stop_held, stop_lone_cr, stop_lf, one_way, begins_or_wrong, Begins, Wrong}
use Rattle.tftp_file.proofs.DecodingLemmas.{read, first_wrong_after, first_wrong_before, wrong_after}

-- two pieces, one after the other
joins : (held piece between bytes next : List ℕ) → held ++ piece ≡ netascii_text bytes ++ between
    → held ++ (piece ++ next) ≡ netascii_text bytes ++ (between ++ next)
joins held piece between bytes next e = grind (arith, common_steps)

decodes_joined : (held piece between next after first rest : List ℕ) → DecodesPiece held piece first between
    → DecodesPiece between next rest after → DecodesPiece held (piece ++ next) (first ++ rest) after
decodes_joined held piece between next after first rest d k = grind (arith, common_steps)

-- a text has one list of bytes, and one rest
pub once : (held text bytes after others left : List ℕ) → DecodesPiece held text bytes after
    → DecodesPiece held text others left → (bytes ≡ others) × (after ≡ left)
once held text bytes after others left d k = search (rules, one_way, stop_held)

-- pieces that are decoded one after another are decoded as a whole
pub pieces_join : (held : List ℕ) (pieces : List (List ℕ)) (bytes after : List ℕ) → IsHeldBack held
    → TakesAll held pieces bytes after → DecodesPiece held (concat pieces) bytes after
pieces_join held [] bytes after h t = search rules
pieces_join held (piece ∷ pieces) bytes after h t =
    subst (λ (l : List ℕ). DecodesPiece held (piece ++ concat pieces) l after) (sym t.5)
    (decodes_joined held piece t.1 (concat pieces) after t.0 t.2 t.3 (pieces_join t.1 pieces t.2 after t.3.0 t.4))

-- a text is right if its pieces are
begins_cut : (held text bytes after : List ℕ) → DecodesPiece held text bytes after → BeginsWireText (held ++ text)
begins_cut held text bytes after d = (bytes, after, d)

-- a text that is decoded as a whole is decoded by pieces
pub whole_taken : (held : List ℕ) (pieces : List (List ℕ)) (bytes after : List ℕ) → IsHeldBack held
    → DecodesPiece held (concat pieces) bytes after → TakesAll held pieces bytes after
whole_taken held [] bytes after h d =
    let o = one_way bytes [] after held (stop_held after d.0) (stop_held held h) (sym d.1 ∙ append-nil held) in
    (o.0, o.1)
whole_taken held (piece ∷ pieces) bytes after h d = elim (read (held ++ piece)) [
  | Wrong fault w ↦
      absurd (begins_or_wrong (held ++ (piece ++ concat pieces)) fault
      (begins_cut held (piece ++ concat pieces) bytes after d) (
        w.0,
        subst (λ (t : List ℕ). FirstWrong t w.0 fault) (append_assoc held piece (concat pieces))
            (first_wrong_before (held ++ piece) (concat pieces) w.0 fault w.1),
      ))
  | Begins b ↦ elim (read (b.1 ++ concat pieces)) [
    | Wrong fault w ↦
        absurd (begins_or_wrong (held ++ (piece ++ concat pieces)) fault
        (begins_cut held (piece ++ concat pieces) bytes after d)
        (subst (λ (t : List ℕ). IsWrong t fault) (sym (joins held piece b.1 b.0 (concat pieces) b.2.1))
        (wrong_after b.0 (b.1 ++ concat pieces) fault w)))
    | Begins r ↦
        let o =
        once held (piece ++ concat pieces) bytes after (b.0 ++ r.0) r.1 d
        (decodes_joined held piece b.1 (concat pieces) r.1 b.0 r.0 b.2 r.2) in (
          b.0,
          b.1,
          r.0,
          b.2,
          subst (λ (l : List ℕ). TakesAll b.1 pieces r.0 l) (sym o.1) (whole_taken b.1 pieces r.0 r.1 b.2.0 r.2),
          o.0,
        )
  ]
]

-- the first wrong byte is within the text
pub wrong_within : (text : List ℕ) (at : ℕ) (fault : NetFault) → FirstWrong text at fault → at < length text
wrong_within text at fault h = grind (arith, common_steps)

-- the first wrong byte is not a byte held back
wrong_after_held : (held piece : List ℕ) (at : ℕ) (fault : NetFault) → IsHeldBack held
    → FirstWrong (held ++ piece) at fault
    → length held ≤ at
wrong_after_held held piece at fault h w = grind (arith, common_steps)

-- a text has one first wrong byte, with one fault
pub wrong_once : (text : List ℕ) (at other : ℕ) (fault wrong : NetFault) → FirstWrong text at fault
    → FirstWrong text other wrong → (at ≡ other) × (fault ≡ wrong)
wrong_once text at other fault wrong h k = search (rules, one_way, stop_lone_cr, stop_lf)

-- a text begins a wire text, or it has a first wrong byte
pub either : (text : List ℕ) → BeginsWireText text ⊎ ((at : ℕ) × (fault : NetFault) × FirstWrong text at fault)
either text = elim (read text) [ Begins b ↦ inl b | Wrong fault w ↦ inr (w.0, fault, w.1) ]

-- each prefix of a text that begins a wire text begins one, too
pub begins_front : (text rest : List ℕ) → BeginsWireText (text ++ rest) → BeginsWireText text
begins_front text rest b = elim (read text) [
  | Begins h ↦ h
  | Wrong fault w ↦ absurd (begins_or_wrong (text ++ rest) fault b (w.0, first_wrong_before text rest w.0 fault w.1))
]

-- the first wrong byte is refused in whichever piece it is
pub refused_at : (held : List ℕ) (pieces : List (List ℕ)) (at : ℕ) (fault : NetFault) → IsHeldBack held
    → FirstWrong (held ++ concat pieces) at fault → RefusesAt held pieces at fault
refused_at held [] at fault h w = absurd (begins_or_wrong _ _ ([], held, (h, append-nil held)) (at, w))
refused_at held (piece ∷ pieces) at fault h w = elim (read (held ++ piece)) [
  | Wrong wrong v ↦
      let o =
      wrong_once (held ++ (piece ++ concat pieces)) at v.0 fault wrong w (rw (← append_assoc held piece (concat pieces))
      (first_wrong_before (held ++ piece) (concat pieces) v.0 wrong v.1)) in
      record {
        before = [];
        piece = piece;
        following = pieces;
        given = [];
        between = held;
        cut = refl;
        taken = (refl, refl);
        wrong = rw (o.1) v;
        begins = omega (arith, o.0, wrong_after_held held piece v.0 wrong h v.1);
        ends = omega (arith, o.0, wrong_within (held ++ piece) v.0 wrong v.1, length-append held piece);
      }
  | Begins b ↦ elim (read (b.1 ++ concat pieces)) [
    | Begins r ↦ absurd (begins_or_wrong (held ++ (piece ++ concat pieces)) fault (begins_cut held (piece ++ concat
        pieces) (b.0 ++ r.0) r.1 (decodes_joined held piece b.1 (concat pieces) r.1 b.0 r.0 b.2 r.2)) (at, w))
    | Wrong wrong v ↦
        let o = wrong_once (held ++ (piece ++ concat pieces)) at (length (netascii_text b.0) + v.0) fault wrong w
        (rw ((joins held piece b.1 b.0 (concat pieces) b.2.1)) (first_wrong_after b.0 (b.1 ++ concat pieces) v.0 wrong
        v.1)) in
        let i = refused_at b.1 pieces v.0 fault b.2.0 (rw (o.1) v.1) in
        let l = sym (length-append held piece) ∙ (ap length b.2.1 ∙ length-append (netascii_text b.0) b.1) in
        record {
          before = piece ∷ i.before;
          piece = i.piece;
          following = i.following;
          given = b.0 ++ i.given;
          between = i.between;
          cut = ap (λ (ps : List (List ℕ)). piece ∷ ps) i.cut;
          taken = (b.0, b.1, i.given, b.2, i.taken, refl);
          wrong = i.wrong;
          begins = omega (arith, o.0, l, i.begins, length-append piece (concat i.before));
          ends = omega (arith, o.0, l, i.ends, length-append piece (concat i.before));
        }
  ]
]
