-- What holds of each transfer of a table and of its port.
use Rattle.std.proofs.Common.{◌≡◌, ℕ, Bool, true, false, cond, List, [], ◌∷◌, Option, Some, refl, sym, ap, subst}
use Rattle.std.specs.Prelude.{IfSome, All, ⊤}
use Rattle.std.specs.Map.{values_of}
use Rattle.std.specs.Ordering.{is_eq, match_ordering, nat_cmp}
use Rattle.std.specs.declared.cmp.Ordering.{Ordering}
use Rattle.std.specs.declared.cmp.Ordering.TheVariants.{Less, Equal, Greater}
use Rattle.std.proofs.lemmas.List.Elements.{All-cons, All-head, All-nil, All-tail}
use Rattle.tftp_server.specs.State.{at, with_new, with_next, without}
use Rattle.tftp_loop.proofs.Tables.{compares}

module _ {T : Type 0} (P : ℕ → T → Type 0) where
  abbrev pub AllAt : List (ℕ × T) → Type 0
  AllAt [] = ⊤
  AllAt (e ∷ held) = P e.0 e.1 × AllAt held

  found_at : (tid : ℕ) (held : List (ℕ × T)) → AllAt held → IfSome (at tid held) (P tid)
  found_at tid [] all = tt
  found_at tid (e ∷ held) all =
      by (is_eq (nat_cmp tid e.0)) (compares tid e.0 (nat_cmp tid e.0) refl) (found_at tid held all.1)
    where
      by : (b : Bool) → (b ≡ true → tid ≡ e.0) → IfSome (at tid held) (P tid)
          → IfSome (cond b (Some e.1) (at tid held)) (P tid)
      by true same rest = subst (λ (n : ℕ). P n e.1) (sym (same refl)) all.0
      by false same rest = rest

  -- the one at a port
  pub one_at : (tid : ℕ) (held : List (ℕ × T)) {transfer : T} → AllAt held → at tid held ≡ Some transfer
      → P tid transfer
  one_at tid held all found = subst (λ (o : Option T). IfSome o (P tid)) found (found_at tid held all)

  next_there : (tid : ℕ) (held : List (ℕ × T)) (next : T) → AllAt held → P tid next
      → AllAt (with_next tid next held)
  next_there tid [] next all has = tt
  next_there tid (e ∷ held) next all has =
      by (is_eq (nat_cmp tid e.0)) (compares tid e.0 (nat_cmp tid e.0) refl) (next_there tid held next all.1 has)
    where
      by : (b : Bool) → (b ≡ true → tid ≡ e.0) → AllAt (with_next tid next held)
          → AllAt (cond b ((e.0, next) ∷ held) (e ∷ with_next tid next held))
      by true same rest = (subst (λ (n : ℕ). P n next) (same refl) has, all.1)
      by false same rest = (all.0, rest)

  -- with another at a port, with one more, and without one
  pub next_at : (tid : ℕ) (held after : List (ℕ × T)) (next : T) → AllAt held → P tid next
      → after ≡ with_next tid next held → AllAt after
  next_at tid held after next all has is = subst AllAt (sym is) (next_there tid held next all has)

  pub new_at : (tid : ℕ) (held : List (ℕ × T)) (new : T) → AllAt held → P tid new → AllAt (with_new tid new held)
  new_at tid [] new all has = (has, tt)
  new_at tid (e ∷ held) new all has =
      by (nat_cmp tid e.0) (λ same. compares tid e.0 (nat_cmp tid e.0) refl (ap is_eq same))
      (new_at tid held new all.1 has)
    where
      by : (o : Ordering) → (o ≡ Equal → tid ≡ e.0) → AllAt (with_new tid new held)
          → AllAt (match_ordering o ((tid, new) ∷ e ∷ held) ((e.0, new) ∷ held) (e ∷ with_new tid new held))
      by Less same rest = (has, all)
      by Equal same rest = (subst (λ (n : ℕ). P n new) (same refl) has, all.1)
      by Greater same rest = (all.0, rest)

  pub without_at : (tid : ℕ) (held : List (ℕ × T)) → AllAt held → AllAt (without tid held)
  without_at tid [] all = tt
  without_at tid (e ∷ held) all = by (is_eq (nat_cmp tid e.0)) (without_at tid held all.1)
    where
      by : (b : Bool) → AllAt (without tid held) → AllAt (cond b held (e ∷ without tid held))
      by true rest = all.1
      by false rest = (all.0, rest)

-- if it does not depend on the port
module _ {T : Type 0} (P : T → Type 0) where
  pub to_ports : (held : List (ℕ × T)) → All P (values_of held) → AllAt (λ _. P) held
  to_ports [] all = tt
  to_ports (e ∷ held) all = (All-head P _ _ all, to_ports held (All-tail P _ _ all))

  pub from_ports : (held : List (ℕ × T)) → AllAt (λ _. P) held → All P (values_of held)
  from_ports [] all = All-nil P
  from_ports (e ∷ held) all = All-cons P e.1 (values_of held) all.0 (from_ports held all.1)
