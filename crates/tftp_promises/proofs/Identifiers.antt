-- The transfer at an identifier, after another one took its place, or one was added or removed.
use Rattle.tftp_promises.proofs.Common.{List, ℕ, ◌≡◌, rules, sym, refl, ◌∙◌, Some, inl, inr, None, IsSome, Option}
use Rattle.tftp_promises.proofs.Common.{arith, ◌<◌, ◌⊎◌, ◌≢◌, same_Some, cases_eq, at, with_next, with_new, without}
use Rattle.tftp_promises.proofs.Common.{numbers, lookup-insert_same, lookup-insert_other, lookup-set_same}
use Rattle.tftp_promises.proofs.Common.{lookup-set_other, lookup-remove_other}
use Rattle.tftp_promises.proofs.OneTimerEach.{AreKeyedOnce, hit_same, keyed, keyed_present, keyed_removed}

module _ {T : Type 0} where
  -- another one in its place: it is found there, and every other one as before
  pub at-with_next_cases : (tid other : ℕ) (was next t : T) (held : List (ℕ × T)) → at tid held ≡ Some was →
      at other (with_next tid next held) ≡ Some t →
      ((other ≡ tid) × (t ≡ next)) ⊎ ((other ≢ tid) × (at other held ≡ Some t))
  at-with_next_cases tid other was next t held found h = elim (cases_eq other tid) [
    | inl e ↦ inl (e, same_Some t next (sym h ∙ rw (e) (lookup-set_same numbers tid was next held found)))
    | inr n ↦ inr (n, sym (lookup-set_other numbers tid other was next held found n) ∙ h)
  ]

  -- a new one: what is found is that, or was there before
  pub at-with_new_cases : (tid other : ℕ) (new t : T) (held : List (ℕ × T)) →
      at other (with_new tid new held) ≡ Some t →
      ((other ≡ tid) × (new ≡ t)) ⊎ ((other ≢ tid) × (at other held ≡ Some t))
  at-with_new_cases tid other new t held found = elim (cases_eq other tid) [
    | inl e ↦ inl (e, same_Some new t (sym (rw (e) (lookup-insert_same numbers tid new held)) ∙ found))
    | inr n ↦ inr (n, sym (lookup-insert_other numbers tid other new held n) ∙ found)
  ]

  -- one removed: it is not found, and every other one as before
  pub at-without : (tid : ℕ) (held : List (ℕ × T)) → AreKeyedOnce held → IsSome (at tid held) →
      at tid (without tid held) ≡ None
  at-without tid held once there = none (at tid (without tid held)) refl where
    none : (o : Option T) → at tid (without tid held) ≡ o → o ≡ None
    none None is = refl
    none (Some t) is =
        let more : 0 < keyed tid (without tid held) = keyed_present tid (without tid held) (rw is refl) in
        let all = keyed_removed tid tid held there in
        let most = once tid in
        let one = hit_same tid in
        absurd (omega (arith, more, all, most, one))

  pub at-without_cases : (tid other : ℕ) (t : T) (held : List (ℕ × T)) → AreKeyedOnce held → IsSome (at tid held) →
      at other (without tid held) ≡ Some t → (other ≢ tid) × (at other held ≡ Some t)
  at-without_cases tid other t held once there h = elim (cases_eq other tid) [
    | inl e ↦ absurd (let f : None ≡ Some t = search (rules, at-without) in cc)
    | inr n ↦ (n, sym (lookup-remove_other numbers tid other held n) ∙ h)
  ]
