-- The model of a source, and the bytes that a fill moves from it to a buffer.
use Rattle.std.specs.Prelude.{ℕ, ◌≡◌, ◌≤◌, ◌⊎◌, List, [], ◌++◌, length, take, drop, min, Option}
use Rattle.std.specs.Prelude.{Some}
use Rattle.std.specs.Prelude.{None, Result, Ok, Err, ⊤}
use Rattle.std.specs.Borrow.{MutBor}
use Rattle.tftp_wire.specs.declared.mode.Mode.{Mode}
use Rattle.tftp_file.specs.declared.fault.FileFault.{FileFault}
use Rattle.tftp_file.specs.declared.fault.FileFault.TheVariants.{Memory, Read}

-- the model of the sources of one type
pub record SourceMeaning (S : Type 0) : Type 1 where
  -- the wire text that is left, or None if it is not known
  pub left : S → Option (List ℕ)
  -- a fill of this many bytes may return Read
  pub may_fail : S → ℕ → Type 0
  -- a fill of this many bytes returns Read
  pub fails : S → ℕ → Type 0
  -- the effect of a call on the source: of a fill that gave these bytes, or of a fill that failed
  -- or a read ahead, which give none
  pub gives : S → List ℕ → S → Type 0
  -- a source that a store opens, of this root, at this path, in this mode, and which it says to be
  -- so long, is such
  pub opens : List ℕ → List ℕ → Mode → ℕ → S → Type 0

-- the model of sources of which nothing is known: each fill may fail, and none must
abbrev pub unknown_source : {S : Type 0} → SourceMeaning S
unknown_source =
    record {
      left = λ s. None;
      may_fail = λ s want. ⊤;
      fails = λ s want. ⊥;
      gives = λ s piece t. ⊤;
      opens = λ root path mode length s. ⊤;
    }

-- the model of a value that contains a source
abbrev pub source_through : {S T : Type 0} → SourceMeaning T → (S → T) → SourceMeaning S
source_through meaning seen =
    record {
      left = λ s. meaning.left (seen s);
      may_fail = λ s want. meaning.may_fail (seen s) want;
      fails = λ s want. meaning.fails (seen s) want;
      gives = λ s piece t. meaning.gives (seen s) piece (seen t);
      opens = λ root path mode length s. meaning.opens root path mode length (seen s);
    }

-- the model of a borrow of a source
abbrev pub borrowed_source : {S : Type 0} → SourceMeaning S → SourceMeaning (MutBor S)
borrowed_source meaning = source_through meaning (λ s. s.now)

-- the next k bytes of the text are appended to the buffer
pub record Moved (left : List ℕ) (after : Option (List ℕ)) (want : ℕ) (old new : List ℕ)
    (k : ℕ) : Type 0 where
  pub count : k ≡ min want (length left)
  pub given : new ≡ old ++ take k left
  pub rest : after ≡ Some (drop k left)

-- some k bytes of a source whose text is not known are appended to the buffer
pub record MovedUnknown (want : ℕ) (old new : List ℕ) (k : ℕ) : Type 0 where
  pub piece : List ℕ
  pub given : new ≡ old ++ piece
  pub count : length piece ≡ k
  pub bound : k ≤ want

-- nothing is moved
pub record Unmoved (before after : Option (List ℕ)) (old new : List ℕ) : Type 0 where
  pub kept : new ≡ old
  pub rest : after ≡ before

-- the effect of a fill of this many bytes, by the text of the source before and after it
abbrev pub Fills : Option (List ℕ) → Option (List ℕ) → ℕ → List ℕ → List ℕ → Result ℕ FileFault
    → Type 0
Fills (Some left) after want old new (Ok k) = Moved left after want old new k
Fills None after want old new (Ok k) = MovedUnknown want old new k
Fills before after want old new (Err Read) = new ≡ old
Fills before after want old new (Err Memory) = Unmoved before after old new

-- the bytes that a call has appended to a buffer, which held the old ones before it
abbrev pub added_to : List ℕ → List ℕ → List ℕ
added_to old new = drop (length old) new

-- the calls of a source in turn, from the first to the last state: they gave these bytes
pub data GivesInTurn {S : Type 0} (sources : SourceMeaning S) (first : S) : List ℕ → S
    → Type 0 where
  Gave_nothing : GivesInTurn sources first [] first
  Gave_more : {bytes piece : List ℕ} {before after : S} → GivesInTurn sources first bytes before
      → sources.gives before piece after → GivesInTurn sources first (bytes ++ piece) after

-- a known value is unchanged
abbrev pub StaysKnown : {A : Type 0} → Option A → Option A → Type 0
StaysKnown None after = ⊤
StaysKnown (Some known) after = after ≡ Some known

-- the text that is left is unchanged if it is known, or each fill then fails, as after a failed
-- read; no more fills may fail than before; if each fill had to fail, each still has to; and no
-- bytes are given
pub record ReadsAhead {S : Type 0} (sources : SourceMeaning S) (before after : S) : Type 0 where
  pub left : StaysKnown (sources.left before) (sources.left after)
      ⊎ ((want : ℕ) → sources.fails after want)
  pub may_fail : (want : ℕ) → sources.may_fail after want → sources.may_fail before want
  pub fails : ((want : ℕ) → sources.fails before want) → (want : ℕ) → sources.fails after want
  pub gave : sources.gives before [] after
