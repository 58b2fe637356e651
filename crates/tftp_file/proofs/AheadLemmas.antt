-- Fills from the bytes read ahead, and then from the source below. For `AheadSource::read_ahead`, `fill_after` and
-- `fill_ahead`.
use Rattle.std.proofs.lemmas.Grind.{common_steps}
use Rattle.std.proofs.Common.{◌≡◌, ℕ, ◌+◌, ◌-◌, ◌≤◌, ◌⊎◌, true, false, List, [], ◌++◌, length, take, drop, Option, Some}
use Rattle.std.proofs.Common.{None, Result, Ok, refl, ap, subst, ◌∙◌, arith, IfOk, IfErr, OnOk, OnErr, rules}
use Rattle.std.specs.Io.KnownBytes.{prepend_known}
use Rattle.std.proofs.lemmas.List.{take_at, drop_at, take_rest}
use Rattle.std.proofs.Math.Seq.{take-add, drop-append-add}
use Rattle.tftp_file.specs.declared.fault.FileFault.{FileFault}
use Rattle.tftp_file.specs.declared.fault.FileFault.TheVariants.{Memory}
use Rattle.tftp_file.specs.Source.{SourceMeaning, Fills, StaysKnown, ReadsAhead}
use Rattle.tftp_file.specs.Ahead.{AheadState, ahead_meaning}

-- with nothing read ahead, the source below has all the text that is left
pub nothing_held : (left : Option (List ℕ)) → prepend_known [] left ≡ left
nothing_held None = refl
nothing_held (Some left) = refl

-- with nothing read ahead, a fill is one of the source below
pub fills_below : (held : List ℕ) (a b : Option (List ℕ)) (want : ℕ) (old new : List ℕ) (r : Result ℕ FileFault)
    → held ≡ [] → Fills a b want old new r
    → Fills (prepend_known held a) (prepend_known held b) want old new r
fills_below held a b want old new r empty fills = rw (empty, nothing_held a, nothing_held b) fills

-- enough bytes were read ahead and are given, or out of memory nothing has changed
pub fills_or_keeps : (held : List ℕ) (a : Option (List ℕ)) (want : ℕ) (old new rest : List ℕ) (r : Result ℕ FileFault)
    → want ≤ length held
    → IfOk r (λ k. k ≡ want) → OnOk r (new ≡ old ++ take want held) → OnOk r (rest ≡ drop want held)
    → OnErr r (new ≡ old) → OnErr r (rest ≡ held) → IfErr r (λ fault. fault ≡ Memory)
    → Fills (prepend_known held a) (prepend_known rest a) want old new r
fills_or_keeps held a want old new rest r enough count given left err kept fault = grind (arith, common_steps) steps
    1000000

-- the bytes read ahead are given, and then the source below gives the others
pub fills_after : (held : List ℕ) (a b : Option (List ℕ)) (want k : ℕ) (old mid new : List ℕ) → length held ≤ want
    → mid ≡ old ++ held → Fills a b (want - length held) mid new (Ok k)
    → Fills (prepend_known held a) b want old new (Ok (length held + k))
fills_after held a b want k old mid new short begun fills = grind (
  arith,
  common_steps,
  take-add,
  take_at,
  drop_at,
  drop-append-add,
)

-- the rest of a buffer is the bytes read ahead
pub fills_rest : (items all : List ℕ) (at : ℕ) (a b : Option (List ℕ)) (want : ℕ) (old new : List ℕ)
    (r : Result ℕ FileFault)
    → items ≡ all
    → Fills (prepend_known (take (length items - at) (drop at items)) a)
    (prepend_known (take (length items - at) (drop at items)) b) want old new r
    → Fills (prepend_known (drop at all) a) (prepend_known (drop at all) b) want old new r
fills_rest items all at a b want old new r same fills =
    let P : List ℕ → Type 0 = λ held. Fills (prepend_known held a) (prepend_known held b) want old new r in
    subst P (take_rest items at ∙ ap (drop at) same) fills

module _ {S : Type 0} (sources : SourceMeaning S) (is_same : S → S → Type 0)
    (joins : (a b c : S) → is_same a b → is_same b c → is_same a c) (stays : (a : S) → is_same a a) where
  -- a block was read ahead of a source with nothing read ahead, or that read has failed
  pub reads_ahead : (before after : AheadState S) (size : ℕ) → before.failed ≡ false → before.held ≡ []
      → is_same before.source after.source
      → (after.failed ≡ false
      → StaysKnown (sources.left before.source) (prepend_known after.held (sources.left after.source)))
      → (after.failed ≡ true → sources.may_fail before.source size)
      → (sources.fails before.source size
      → (after.failed ≡ true) ⊎ ((after.source ≡ before.source) × (after.held ≡ [])))
      → ReadsAhead (ahead_meaning sources is_same) before after
  reads_ahead before after size unfailed empty same left read fails = search rules
