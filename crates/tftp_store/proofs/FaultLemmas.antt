-- Calls that are passed to the source that the inner store opened. For `OpenedSourceSource::read_ahead`.
use Rattle.std.proofs.Common.{◌≡◌, ℕ, ◌⊎◌, Bool, true, false, refl, inl, inr}
use Rattle.tftp_file.specs.Source.{SourceMeaning, ReadsAhead}
use Rattle.tftp_store.specs.FaultStore.{opened_meaning}

module _ {F : Type 0} (sources : SourceMeaning F) (before after : F) (h : ReadsAhead sources before after) where
  left_or_fails : (fails : Bool) → (X : Type 0) → X ⊎ ((want : ℕ) → sources.fails after want)
      → X ⊎ ((want : ℕ) → (fails ≡ true) ⊎ sources.fails after want)
  left_or_fails fails X (inl e) = inl e
  left_or_fails fails X (inr f) = inr (λ want. inr (f want))

  may_fail_still : (fails : Bool) (want : ℕ) → (fails ≡ true) ⊎ sources.may_fail after want
      → (fails ≡ true) ⊎ sources.may_fail before want
  may_fail_still fails want (inl e) = inl e
  may_fail_still fails want (inr m) = inr (h.may_fail want m)

  below : (want : ℕ) → (false ≡ true) ⊎ sources.fails before want → sources.fails before want
  below want (inl e) = absurd (cc)
  below want (inr f) = f

  fails_still : (fails : Bool) → ((want : ℕ) → (fails ≡ true) ⊎ sources.fails before want) → (want : ℕ)
      → (fails ≡ true) ⊎ sources.fails after want
  fails_still true all want = inl refl
  fails_still false all want = inr (h.fails (λ n. below n (all n)) want)

  -- reading ahead below does not change the source above it
  pub reads_ahead : (fails : Bool)
      → ReadsAhead (opened_meaning sources) (record { source = before; fails = fails })
      (record { source = after; fails = fails })
  reads_ahead fails = record {
    left = left_or_fails fails _ h.left;
    may_fail = may_fail_still fails;
    fails = fails_still fails;
    gave = h.gave;
  }
