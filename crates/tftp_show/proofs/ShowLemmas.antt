-- The lines of an input, one by one, and what is printed for them.
use Rattle.std.proofs.Common.{ℕ, suc, ◌≡◌, ◌<◌, ◌-◌, Bool, true, false, cond, ◌&&◌, eqb, refl, ap, sym, subst, ◌∙◌}
use Rattle.std.proofs.Common.{arith, lt-ltb, List, [], ◌∷◌, ◌++◌, length, append_assoc, Option, Some, None}
use Rattle.std.specs.Prelude.{⊤, IfSome}
use Rattle.std.proofs.Math.Bool.{and_assoc}
use Rattle.std.specs.Io.BufRead.{take_through, drop_through, strip_last, DropsThrough}
use Rattle.std.specs.Io.KnownBytes.{Appends}
use Rattle.hex.specs.Hex.{decode_of}
use Rattle.tftp_show.specs.Show.{onto_first, lines_of, line_shown, spells_packet, are_packets, input_shown}

by_test : {G : Type 0} (b : Bool) → (b ≡ true → G) → (b ≡ false → G) → G
by_test true holds fails = holds refl
by_test false holds fails = fails refl

-- ---- lines

-- the bytes before the first line feed
abbrev before_feed : List ℕ → List ℕ
before_feed [] = []
before_feed (b ∷ bs) = cond (eqb b 10) [] (b ∷ before_feed bs)

cons_cond : (b : Bool) (x : ℕ) (ys zs : List ℕ) → cond b (x ∷ ys) (x ∷ zs) ≡ x ∷ cond b ys zs
cons_cond true x ys zs = refl
cons_cond false x ys zs = refl

one_less : (n : ℕ) → suc n - 1 ≡ n
one_less n = omega arith

-- a byte before it keeps the end of a line
strip_cons : (x y : ℕ) (t : List ℕ) → strip_last 10 (x ∷ y ∷ t) ≡ x ∷ strip_last 10 (y ∷ t)
strip_cons x y t =
    rw (
      lt-ltb 0 (suc (suc (length t))) (omega arith),
      lt-ltb 0 (suc (length t)) (omega arith),
      one_less (suc (length t)),
      one_less (length t),
    ) (cons_cond _ _ _ _)

strip_kept : (x : ℕ) (t : List ℕ) → eqb x 10 ≡ false → strip_last 10 (x ∷ t) ≡ x ∷ strip_last 10 t
strip_kept x [] h = rw h refl
strip_kept x (y ∷ t) h = strip_cons x y t

-- a line that is read, without its end
stripped : (bs : List ℕ) → strip_last 10 (take_through 10 bs) ≡ before_feed bs
stripped [] = refl
stripped (b ∷ bs) =
    by_test (eqb b 10) (λ e. rw e (rw e refl))
    (λ e. rw e (strip_kept b (take_through 10 bs) e ∙ ap (λ l. b ∷ l) (stripped bs)))

first_line_before : (bs : List ℕ) → 0 < length bs → lines_of bs ≡ before_feed bs ∷ lines_of (drop_through 10 bs)
first_line_before [] l = absurd (omega arith)
first_line_before (b ∷ []) l = by_test (eqb b 10) (λ e. rw e refl) (λ e. rw e refl)
first_line_before (b ∷ c ∷ bs) l =
    by_test (eqb b 10) (λ e. rw e refl) (λ e. rw e (ap (onto_first b) (first_line_before (c ∷ bs) (omega arith))))

-- the first line is what is read up to a line feed, without it
lines_first : (bs : List ℕ) → 0 < length bs →
    lines_of bs ≡ strip_last 10 (take_through 10 bs) ∷ lines_of (drop_through 10 bs)
lines_first bs l = first_line_before bs l ∙ ap (λ f. f ∷ lines_of (drop_through 10 bs)) (sym (stripped bs))

-- ---- the loop

-- what is written, with what is still to be written for the bytes that are left, is what is due for all
abbrev pub Owes : Option (List ℕ) → Option (List ℕ) → List ℕ → List ℕ → Type 0
Owes None now left all = ⊤
Owes (Some start) None left all = ⊥
Owes (Some start) (Some now) left all = now ++ input_shown left ≡ start ++ input_shown all

-- so far, if the reader and the writer have a model
abbrev pub GoesOn : Option (List ℕ) → Option (List ℕ) → Option (List ℕ) → Option (List ℕ) → Bool → Type 0
GoesOn None left start now packets = ⊤
GoesOn (Some all) None start now packets = ⊥
GoesOn (Some all) (Some left) start now packets =
    ((packets && are_packets left) ≡ are_packets all) × Owes start now left all

-- what was read of some bytes is a line only if there are some
some_left : (left : List ℕ) → 0 < length (take_through 10 left) → 0 < length left
some_left [] h = h
some_left (b ∷ left) h = omega arith

packets_first : (left : List ℕ) → 0 < length (take_through 10 left) →
    are_packets left ≡ (spells_packet (decode_of (strip_last 13 (strip_last 10 (take_through 10 left))))
    && are_packets (drop_through 10 left))
packets_first left h = rw (lines_first left (some_left left h)) refl

shown_first : (left : List ℕ) → 0 < length (take_through 10 left) →
    input_shown left ≡ (line_shown (strip_last 13 (strip_last 10 (take_through 10 left))) ++ 10 ∷ [])
    ++ input_shown (drop_through 10 left)
shown_first left h = rw (lines_first left (some_left left h)) refl

owed_after : (start now now' : Option (List ℕ)) (left all text : List ℕ) → 0 < length (take_through 10 left) →
    text ≡ line_shown (strip_last 13 (strip_last 10 (take_through 10 left))) ++ 10 ∷ [] → Owes start now left all →
    Appends now now' text → Owes start now' (drop_through 10 left) all
owed_after None now now' left all text h e o a = tt
owed_after (Some start) None now' left all text h e o a = absurd o
owed_after (Some start) (Some now) None left all text h e o a = absurd a
owed_after (Some start) (Some now) (Some now') left all text h e o a =
    ap (λ w. w ++ input_shown (drop_through 10 left)) (a ∙ ap (λ t. now ++ t) e)
    ∙ append_assoc now _ (input_shown (drop_through 10 left))
    ∙ ap (λ t. now ++ t) (sym (shown_first left h))
    ∙ o

-- after a line
pub goes_on : (input left left' start now now' : Option (List ℕ)) (packets is_packet : Bool) (read text : List ℕ) →
    GoesOn input left start now packets → DropsThrough left left' 10 →
    IfSome left (λ bytes. read ≡ take_through 10 bytes) → 0 < length read →
    is_packet ≡ spells_packet (decode_of (strip_last 13 (strip_last 10 read))) → text ≡ line_shown (strip_last 13 (strip_last 10 read)) ++ 10 ∷ [] →
    Appends now now' text → GoesOn input left' start now' (packets && is_packet)
goes_on None left left' start now now' packets is_packet read text g d r h i e a = tt
goes_on (Some all) None left' start now now' packets is_packet read text g d r h i e a = absurd g
goes_on (Some all) (Some left) left' start now now' packets is_packet read text g d r h i e a =
    let h' = subst (λ l. 0 < length l) r h in
    subst (λ l. GoesOn (Some all) l start now' (packets && is_packet)) (sym d) (
      and_assoc packets is_packet _
          ∙ ap (λ b. packets && (b && are_packets (drop_through 10 left)))
          (i ∙ ap (λ l. spells_packet (decode_of (strip_last 13 (strip_last 10 l)))) r)
          ∙ ap (λ b. packets && b) (sym (packets_first left h'))
          ∙ g.0,
      owed_after start now now' left all text h' (e ∙ ap (λ l. line_shown (strip_last 13 (strip_last 10 l)) ++ 10 ∷ []) r) g.1 a,
    )
