-- The files of an end, by their models.
use Rattle.std.specs.Prelude.{ℕ, ◌≡◌, true, false, [], Option, Some, None}
use Rattle.tftp_file.specs.Source.{SourceMeaning}
use Rattle.tftp_file.specs.Sink.{Holding, SinkMeaning}
use Rattle.tftp_file.specs.declared.files.Files.{Files}
use Rattle.tftp_file.specs.declared.files.Files.TheVariants.{Source, Sink}
use Rattle.tftp_ends.specs.declared.side.Side.{Side}
use Rattle.tftp_ends.specs.End.{is_sender}

-- a source has the same bytes left, if each fill failed before, each fill fails, and it gave no
-- bytes
pub record KeepsSource {S : Type 0} (sources : SourceMeaning S) (before after : S) : Type 0 where
  pub left : sources.left after ≡ sources.left before
  pub fails : ((want : ℕ) → sources.fails before want) → (want : ℕ) → sources.fails after want
  pub gave : sources.gives before [] after

-- a sink with a model holds the same
abbrev pub KeepsHolding : Option Holding → Option Holding → Type 0
KeepsHolding None after = Unit {0}
KeepsHolding (Some before) after = after ≡ Some before

-- a sink with a model holds the same, and all else is as without a commit
pub record KeepsSink {K : Type 0} (sinks : SinkMeaning K) (before after : K) : Type 0 where
  pub holding : KeepsHolding (sinks.held before) (sinks.held after)
  pub leaves : sinks.becomes before after false

module _ {S K : Type 0} where
  -- a source for a sender, a sink for a receiver
  abbrev pub AreFilesOf : Side → Files S K → Type 0
  AreFilesOf side (Source source) = is_sender side ≡ true
  AreFilesOf side (Sink sink) = is_sender side ≡ false

  -- a source or a sink is unchanged as above
  abbrev pub KeepsFiles : SourceMeaning S → SinkMeaning K → Files S K → Files S K → Type 0
  KeepsFiles sources sinks (Source old) (Source new) = KeepsSource sources old new
  KeepsFiles sources sinks (Sink old) (Sink new) = KeepsSink sinks old new
  KeepsFiles sources sinks (Source old) (Sink new) = ⊥
  KeepsFiles sources sinks (Sink old) (Source new) = ⊥

  -- the same files, over the same borrows
  abbrev pub AreSame : (S → S → Type 0) → (K → K → Type 0) → Files S K → Files S K → Type 0
  AreSame same_source same_sink (Source old) (Source new) = same_source old new
  AreSame same_source same_sink (Sink old) (Sink new) = same_sink old new
  AreSame same_source same_sink (Source old) (Sink new) = ⊥
  AreSame same_source same_sink (Sink old) (Source new) = ⊥
