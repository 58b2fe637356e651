-- What holds of each transfer of a table.
-- For Reflecting and Leaving, and for the runs of tftp_daemon.
use Rattle.std.proofs.Common.{rules}
use Rattle.tftp_loop.proofs.Common.{◌≡◌, ℕ, Bool, true, false, cond, List, [], ◌∷◌, Option, Some, sym, subst, IfSome}
use Rattle.tftp_loop.proofs.Common.{All, is_at, lookup, values_of, nat_cmp, at, with_new, with_next, without}
use Rattle.std.proofs.lemmas.List.Elements.{All-head, All-tail}
use Rattle.std.proofs.lemmas.Map.Views.{All-map-remove_entry, All-values-insert_entry, All-values-set_value}

module _ {T : Type 0} (P : T → Type 0) where
  abbrev AllHeld : List (ℕ × T) → Type 0
  AllHeld held = All P (values_of held)

  found_in : (test : ℕ → Bool) (held : List (ℕ × T)) → AllHeld held → IfSome (lookup test held) P
  found_in test [] all = tt
  found_in test (e ∷ held) all = by (test e.0) (found_in test held (All-tail P _ _ all))
    where
      by : (b : Bool) → IfSome (lookup test held) P → IfSome (cond b (Some e.1) (lookup test held)) P
      by true rest = All-head P _ _ all
      by false rest = rest

  -- the one at an identifier
  pub held_at : (tid : ℕ) (held : List (ℕ × T)) {transfer : T} → AllHeld held → at tid held ≡ Some transfer
      → P transfer
  held_at tid held all found =
      subst (λ (o : Option T). IfSome o P) found (found_in (is_at (nat_cmp tid)) held all)

  -- with another at an identifier, with one more, and without one
  pub held_next : (tid : ℕ) (held after : List (ℕ × T)) (next : T) → AllHeld held → P next
      → after ≡ with_next tid next held → AllHeld after
  held_next tid held after next all has is =
      subst AllHeld (sym is) (All-values-set_value (is_at (nat_cmp tid)) P held next all has)

  -- what holds of all transfers and of a new one holds with the new one in the table
  pub held_new : (tid : ℕ) (held : List (ℕ × T)) (new : T) → AllHeld held → P new → AllHeld (with_new tid new held)
  held_new tid held new all has = All-values-insert_entry nat_cmp tid new P held all has

  -- what holds of all holds without one of them
  pub held_without : (tid : ℕ) (held : List (ℕ × T)) → AllHeld held → AllHeld (without tid held)
  held_without tid held all =
      All-map-remove_entry (is_at (nat_cmp tid)) (λ (e : ℕ × T). e.1) P held all

  -- if it holds of every one
  pub held_any : ((transfer : T) → P transfer) → (held : List (ℕ × T)) → AllHeld held
  held_any has held = search rules
