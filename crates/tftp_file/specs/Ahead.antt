-- A source that is read ahead: the text that is left, and the fills that fail.
use Rattle.std.specs.Prelude.{ℕ, ◌≡◌, ◌⊎◌, Bool, true, false, List, [], ⊤}
use Rattle.std.specs.Io.KnownBytes.{prepend_known}
use Rattle.tftp_file.specs.Source.{SourceMeaning}

-- the source below, the bytes read ahead, the number of bytes that the last fill requested, and
-- whether a read ahead failed
pub record AheadState (S : Type 0) : Type 0 where
  pub source : S
  pub held : List ℕ
  pub size : ℕ
  pub failed : Bool

-- a source with nothing read ahead
abbrev pub new_ahead : {S : Type 0} → S → AheadState S
new_ahead source = record { source = source; held = []; size = 0; failed = false }

-- the source below may fail at some fill, now or later
pub record MayFailLater {S : Type 0} (sources : SourceMeaning S) (is_same : S → S → Type 0)
    (source : S) : Type 0 where
  pub later : S
  pub stays : is_same source later
  pub want : ℕ
  pub fails : sources.may_fail later want

-- the model of a source that is read ahead: the bytes read ahead are left, followed by the text of
-- the source below; after a failed read ahead each fill fails; nothing is said of what the
-- source below gave, nor of its opening
abbrev pub ahead_meaning : {S : Type 0} → SourceMeaning S → (S → S → Type 0)
    → SourceMeaning (AheadState S)
ahead_meaning sources is_same =
    record {
      left = λ a. prepend_known a.held (sources.left a.source);
      may_fail = λ a want. (a.failed ≡ true) ⊎ MayFailLater sources is_same a.source;
      fails = λ a want. (a.failed ≡ true) ⊎ ((a.held ≡ []) × sources.fails a.source want);
      gives = λ a piece b. ⊤;
      opens = λ root path mode length a. ⊤;
    }
