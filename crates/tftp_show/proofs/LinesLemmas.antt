-- A line that is read in parts.
use Rattle.std.proofs.Common.{ℕ, ◌≡◌, Bool, true, false, refl, ap, sym, ◌∙◌, append_assoc, List, [], ◌++◌, length, take}
use Rattle.std.proofs.Common.{length-take-le, Option, Some, None}
use Rattle.std.specs.declared.result.Result.{Result}
use Rattle.std.specs.declared.result.Result.TheVariants.{Ok, Err}
use Rattle.std.specs.Prelude.{IfOk, OnSome}
use Rattle.std.specs.Io.BufRead.{take_through, drop_through}
use Rattle.std.specs.Io.KnownBytes.{Consumes, IsAtEnd, Keeps}
use Rattle.std.proofs.BufReadLemmas.{take_through-append, drop_through-append, through_part, zero_unless_positive}
use Rattle.tftp_show.specs.Lines.{AppendsLine, AppendsPart, IsLinePart, ReadsLine}

-- ---- a part

-- the buffered part of the line was appended and consumed
pub part_read : (ends : Bool) (old new : Option (List ℕ)) (was now shown : List ℕ) (n : ℕ) → IsLinePart shown n ends →
    now ≡ was ++ take n shown → Consumes old new (take n shown) → (length shown ≡ 0 → OnSome old (IsAtEnd new)) →
    ReadsLine ends old new was now
part_read true None new was now shown n p e k z = (tt, tt)
part_read true (Some x) None was now shown n p e k z = absurd k
part_read true (Some x) (Some y) was now shown n p e k z =
    let part = take n shown in
    let none : length part ≡ 0 → y ≡ [] =
    λ zero. z (zero_unless_positive (length shown) n p.some (sym (length-take-le n shown p.within) ∙ zero)) in
    let through = through_part 10 part y (p.stops refl) (p.feed refl) none in (
      e ∙ ap (λ l. was ++ l) (sym (ap (take_through 10) k ∙ through.0)),
      ap Some (sym (ap (drop_through 10) k ∙ through.1)),
    )
part_read false None new was now shown n p e k z = tt
part_read false (Some x) None was now shown n p e k z = absurd k
part_read false (Some x) (Some y) was now shown n p e k z =
    let part = take n shown in (
      ap (λ l. l ++ take_through 10 y) e ∙ append_assoc was part (take_through 10 y)
          ∙ ap (λ l. was ++ l) (sym (ap (take_through 10) k ∙ take_through-append 10 part y (p.goes_on refl))),
      sym (ap (drop_through 10) k ∙ drop_through-append 10 part y (p.goes_on refl)),
    )

none_read : (old new : Option (List ℕ)) (was : List ℕ) → Keeps old new → AppendsPart old new was was
none_read None new was k = tt
none_read (Some x) None was k = absurd k
none_read (Some x) (Some y) was k = (ap (λ l. was ++ take_through 10 l) k, ap (drop_through 10) k)

-- nothing was read, and the line goes on
pub unread : {E : Type 0} (r : Result Bool E) (old new : Option (List ℕ)) (was : List ℕ) →
    IfOk r (λ ends. ends ≡ false) → Keeps old new → IfOk r (λ ends. ReadsLine ends old new was was)
unread (Ok false) old new was e k = none_read old new was k
unread (Ok true) old new was e k = absurd (cc)
unread (Err f) old new was e k = tt

-- the last part after others
pub parts_end : (a b c : Option (List ℕ)) (x y z : List ℕ) → AppendsPart a b x y → AppendsLine b c y z →
    AppendsLine a c x z
parts_end None b c x y z h k = (tt, tt)
parts_end (Some p) None c x y z h k = absurd h
parts_end (Some p) (Some q) c x y z h k = (k.0 ∙ h.0, k.1 ∙ ap Some h.1)
