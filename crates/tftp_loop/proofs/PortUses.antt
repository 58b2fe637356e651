-- The ports that are used, one after the other, come last, in their order. For `a_range_gives_no_port_twice`, `bind_next`
-- and PoolLemmas.
use Rattle.std.proofs.lemmas.Grind.{common_steps}
use Rattle.tftp_loop.proofs.Common.{arith, ◌≡◌, ◌<◌, ◌≤◌, ◌+◌, ◌-◌, ℕ, zero, suc, false, List, [], ◌∷◌, ◌++◌, length}
use Rattle.tftp_loop.proofs.Common.{take, drop, sym, ap, subst, ◌∙◌, inl, inr, AllByRecursion, range_with_len, ne_eqb}
use Rattle.tftp_loop.proofs.Common.{append_assoc, coming, drawn_from}
use Rattle.std.proofs.Common.{◌/◌, rules, arith as std_arith}
use Rattle.std.specs.Prelude.{nat_eq, IsPermutation}
use Rattle.std.specs.List.{IsDistinct}
use Rattle.std.proofs.lemmas.Bool.{cases_lt}
use Rattle.std.proofs.lemmas.List.FromFn.{length-range_with_len}
use Rattle.std.proofs.lemmas.List.{drop-drop, take-append-drop}
pub use Rattle.std.proofs.lemmas.List.{append-nil as nothing_after, length-append as long}
use Rattle.std.proofs.lemmas.List.Sorted.{IsPermutation-append_comm, IsPermutation-trans, length_permutation}
use Rattle.std.proofs.lemmas.Map.Keys.{IsDistinct-IsPermutation}
use Rattle.tftp_loop.specs.declared.port_order.PortOrder.{PortOrder}
use Rattle.tftp_loop.specs.PortOrder.{Mixes, UsesNext, ports_of}
use Rattle.tftp_loop.specs.PortsInTurn.{Unused, Uses, UsesNoPortTwice, UsesPorts}

abbrev others_of : List ℕ → List ℕ
others_of [] = []
others_of (x ∷ xs) = xs

all_and : (P : ℕ → Type 0) (xs : List ℕ) (x : ℕ) → AllByRecursion P xs → P x → AllByRecursion P (xs ++ x ∷ [])
all_and P [] x h own = (own, tt)
all_and P (y ∷ xs) x h own = (h.0, all_and P xs x h.1 own)

-- ---- the ports of a range
above : (low from count : ℕ) → low < from → AllByRecursion (λ (y : ℕ). nat_eq low y ≡ false)
    (range_with_len from count)
above low from zero h = tt
above low from (suc count) h = search (rules, ne_eqb, above low (from + 1) count (omega (arith, h)))

-- the last port of a range is not among those before it
last_above : (from count last : ℕ) → from + count ≤ last → IsDistinct nat_eq (range_with_len from count ++ last ∷ [])
unfolding IsDistinct
last_above from zero last h = (tt, tt)
last_above from (suc count) last h = (
  all_and (λ (y : ℕ). nat_eq from y ≡ false)
      (range_with_len (from + 1) count) last (above from (from + 1) count (omega arith))
      (ne_eqb from last (λ e. omega (arith, e, h))),
  last_above (from + 1) count last (omega (arith, h)),
)

ports_distinct : (first last : ℕ) → IsDistinct nat_eq (range_with_len first (last - first) ++ last ∷ [])
ports_distinct first last = elim (cases_lt last first) [
  | inr within ↦ last_above first (last - first) last (omega (arith, within))
  | inl beyond ↦
      let none : last - first ≡ 0 = omega (arith, beyond) in
      rw (none) (last_above 0 0 last (omega arith))
]

-- ---- suffixes
ends_distinct : (xs ys : List ℕ) → IsDistinct nat_eq (xs ++ ys) → IsDistinct nat_eq ys
unfolding IsDistinct
ends_distinct [] ys h = h
ends_distinct (x ∷ xs) ys h = ends_distinct xs ys h.1

some_drawn : (n : ℕ) → 1 ≤ ((n + 1) + 1) / 2
some_drawn n = omega arith

-- ---- used
-- those that are used come last, in their order, and the rest first
pub record ComesLast (before used after : List ℕ) : Type 0 where
  pub rest : List ℕ
  pub all : IsPermutation before after
  pub is : after ≡ rest ++ used

-- as many ports come as there are, less those that were used
pub rest_long : (before used after : List ℕ) (last : ComesLast before used after)
    → length last.rest + length used ≡ length before
rest_long before used after last =
    let same = length_permutation before after last.all in
    let sum : length after ≡ length last.rest + length used = ap (λ (xs : List ℕ). length xs) last.is ∙ long last.rest used in
    omega (arith, same, sum)

-- if no more than the rest is mixed, those that were used stay
mixed_last : (among : ℕ) (rest used mixed : List ℕ) → among ≤ length rest
    → drop among mixed ≡ drop among (rest ++ used) → mixed ≡ take (length rest) mixed ++ used
mixed_last among rest used mixed few same =
    let n = length rest in
    let left = n - among in
    let sum : among + left ≡ n = omega (arith, few) in
    let behind : (xs : List ℕ) → drop n xs ≡ drop left (drop among xs) =
    λ xs. ap (λ (m : ℕ). drop m xs) (sym sum) ∙ sym (drop-drop left among xs) in
    let used_is : drop n mixed ≡ used = grind (std_arith, common_steps) in
    sym (take-append-drop n mixed) ∙ ap (λ (xs : List ℕ). take n mixed ++ xs) used_is

one_comes_last : (before used rest others mixed after : List ℕ) (port : ℕ) → IsPermutation before mixed
    → mixed ≡ rest ++ used → 1 ≤ length rest → mixed ≡ port ∷ others → after ≡ others ++ port ∷ []
    → ComesLast before (used ++ port ∷ []) after
one_comes_last before used [] others mixed after port all is some first last = absurd (let h = some in omega (arith, h))
one_comes_last before used (next ∷ rest) others mixed after port all is some first last =
    let same = sym is ∙ first in
    let tail = ap (λ (xs : List ℕ). others_of xs) same in
    let moved = subst (λ (xs : List ℕ). IsPermutation before xs) first all in
    search (
      subst (λ (xs : List ℕ). IsPermutation before xs) (sym last) (IsPermutation-trans before (port ∷ others)
          (others ++ port ∷ []) moved (IsPermutation-append_comm (port ∷ []) others)),
      last ∙ (ap (λ (xs : List ℕ). xs ++
          port ∷ []) (sym tail) ∙ append_assoc rest used (port ∷ [])),
    )

-- a port that is drawn from the rest, or from fewer, comes last, too
pub drawn_last : (before used : List ℕ) (old mixed new : PortOrder) (among port : ℕ)
    → (last : ComesLast before used (coming old)) → among ≤ length last.rest → 1 ≤ length last.rest
    → Mixes among old mixed → UsesNext mixed new port → ComesLast before (used ++ port ∷ []) (coming new)
drawn_last before used old mixed new among port last few some mixes uses =
    let is = mixed_last _ _ _ _ few (mixes.rest ∙ ap (λ xs. drop among xs) last.is) in
    let all = IsPermutation-trans before (coming old) (coming mixed) last.all mixes.all in
    let whole = ap (λ xs. length xs) is ∙ long (take (length last.rest) (coming mixed)) used in
    let many = rest_long _ _ _ last in
    let same = length_permutation before (coming mixed) all in
    one_comes_last before used (take (length last.rest) (coming mixed)) uses.others (coming mixed) (coming new) port
    all is
    (omega (arith, whole, many, same, some)) uses.was uses.is

-- after so few uses the used ports come last, in their order
pub come_last : (first last : PortOrder) (ports : List ℕ) → UsesPorts first ports last
    → length ports + drawn_from first.range ≤ length (coming first) + 1 → 1 ≤ drawn_from first.range
    → ComesLast (coming first) ports (coming last) × (last.range ≡ first.range)
come_last first last ports Unused few some = search rules
come_last first last ports (Uses {ports = used} {middle} {last = after} {port} uses draws) few some =
    let more : length (used ++ port ∷ []) ≡ length used + 1 = long used (port ∷ []) in
    let before = come_last first middle used uses (omega (arith, more, few)) some in
    let many = rest_long (coming first) used (coming middle) before.0 in
    let half : drawn_from middle.range ≡ drawn_from first.range = ap drawn_from before.1 in
    let among = draws.few in (
      drawn_last (coming first) used middle draws.mixed after draws.among port before.0
          (omega (arith, many, more, few, half, among)) (omega (arith, many, more, few, some)) draws.mixes draws.uses,
      draws.uses.range ∙ (draws.mixes.range ∙ before.1),
    )

flips : (x y : ℕ) → nat_eq x y ≡ nat_eq y x
flips x y = search rules

-- so few uses are of different ports
pub uses_no_port_twice : UsesNoPortTwice
uses_no_port_twice range first last ports order uses few =
    let moved = order.all in
    let all = length_permutation (ports_of range) (coming first) moved in
    let sum = long (range_with_len range.first (range.last - range.first)) (range.last ∷ []) in
    let count = length-range_with_len range.first (range.last - range.first) in
    let half = ap drawn_from order.same in
    let some = some_drawn (range.last - range.first) in
    let after = come_last _ _ _ uses (omega (arith, all, sum, count, half, few)) (omega (arith, half, some)) in
    let distinct =
    IsDistinct-IsPermutation nat_eq flips (ports_of range) (coming last) (IsPermutation-trans (ports_of range) (coming
    first) (coming last) moved after.0.all) (ports_distinct range.first range.last) in
    ends_distinct _ _ (subst (IsDistinct nat_eq) after.0.is distinct)
