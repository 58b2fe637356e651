-- Internal to the code: the result of storing a block.
use Rattle.std.specs.Prelude.{◌≡◌, ◌≢◌, Bool, true, false, List, ℕ, Result, Ok, Err, IfErr, is_ok}
use Rattle.std.specs.Result.{result_err}
use Rattle.tftp_wire.specs.declared.mode.Mode.{Mode}
use Rattle.tftp_file.specs.Sink.{SinkMeaning, Commits}
use Rattle.tftp_file.specs.declared.fault.StoreFault.{StoreFault}
use Rattle.tftp_file.specs.declared.fault.StoreFault.TheVariants.{Memory}
use Rattle.tftp_ends.specs.declared.end.storing.BlockKind.{BlockKind}
use Rattle.tftp_ends.specs.declared.end.storing.BlockKind.TheVariants.{Full, Last}
use Rattle.tftp_ends.specs.declared.end.storing.BlockStored.{BlockStored}
use Rattle.tftp_ends.specs.declared.end.storing.BlockStored.TheVariants.{More, All, Refused}
use Rattle.tftp_ends.specs.declared.end.storing.BlockStored.TheVariants.{Uncommitted}
use Rattle.tftp_ends.specs.Step.{Done, Appended, commit_reply}
use Rattle.tftp_ends.specs.Text.{Decoded}

-- the block is the last one of its file
abbrev pub is_last : BlockKind → Bool
is_last Full = false
is_last Last = true

module _ {K : Type 0} (sinks : SinkMeaning K) where
  -- the result of a commit
  abbrev pub committed_as : Result Done StoreFault → BlockStored
  committed_as (Ok done) = All
  committed_as (Err fault) = Uncommitted (commit_reply fault)

  -- a sink was called to commit the file, with this result
  pub record StoresLast (sink sink' : K) (block_stored : BlockStored) : Type 0 where
    pub answer : Result Done StoreFault
    pub commits : Commits (sinks.held sink) (sinks.held sink') answer
    pub refused : IfErr answer (sinks.may_refuse_commit sink)
    pub leaves : sinks.becomes sink sink' (is_ok answer)
    pub effect : sinks.after_commit sink sink' (result_err answer)
    pub comes_to : block_stored ≡ committed_as answer

  -- what follows an append
  abbrev pub StoresOn : Bool → K → K → BlockStored → Result Done StoreFault → Type 0
  StoresOn last sink sink' block_stored (Err fault) = (block_stored ≡ Refused) × (sink' ≡ sink)
  StoresOn true sink sink' block_stored (Ok done) = StoresLast sink sink' block_stored
  StoresOn false sink sink' block_stored (Ok done) = (block_stored ≡ More) × (sink' ≡ sink)

  -- the bytes were appended, and after the last ones the file was committed
  pub record StoresBlock (bytes : List ℕ) (last : Bool) (sink sink' : K)
      (block_stored : BlockStored) : Type 0 where
    pub answer : Result Done StoreFault
    pub mid : K
    pub appended : Appended sinks bytes sink mid answer
    pub memory : answer ≢ Err Memory
    pub rest : StoresOn last mid sink' block_stored answer

  -- the host bytes of a piece of the text were appended; after it `held_after` is held back
  pub record StoresPiece (mode : Mode) (text piece : List ℕ) (last : Bool) (sink sink' : K)
      (block_stored : BlockStored) (held_after : List ℕ) : Type 0 where
    pub bytes : List ℕ
    pub decoded : Decoded mode text piece bytes held_after
    pub stores : StoresBlock bytes last sink sink' block_stored
