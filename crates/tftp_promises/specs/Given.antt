-- What the source of a transfer of the server gave, call by call, since the server's store opened
-- it.
use Rattle.std.specs.Prelude.{ℕ, ◌≡◌, List, [], ◌⊎◌, ◌++◌, None, length, Ok}
use Rattle.tftp_promises.specs.Common.{SourceMeaning, StoreMeaning, LoopStep, LoopState, Run}
use Rattle.tftp_promises.specs.Common.{EndState, Then, Start, Request_answered, outcome_of, Mode}
use Rattle.tftp_promises.specs.Common.{Opening}
use Rattle.tftp_wire.specs.declared.options.RawOption.{RawOption}
use Rattle.tftp_file.specs.Source.{GivesInTurn}
use Rattle.tftp_server.specs.Request.{AsksToRead}

module _ {S F D : Type 0} {stores : StoreMeaning S D} {sources : SourceMeaning F} where
  -- a step answers this request for the path, in this mode: the store opened this file for it
  abbrev pub StoreOpens : {old new : LoopState S F D} → LoopStep stores sources old new
      → (path request : List ℕ) → Mode → Opening F → Type 0
  StoreOpens {old} (Request_answered answers) path request mode opening =
      (answers.bytes ≡ request) × (options : List RawOption)
      × (asks : AsksToRead stores sources old.server answers.from answers.bytes path mode options
      answers.steps.came)
      × (asks.file ≡ Ok opening)
  StoreOpens does path request mode opening = ⊥

  -- a step of the run did
  abbrev pub StoreOpened : {first last : LoopState S F D} → Run (LoopStep stores sources) first last
      → (path request : List ℕ) → Mode → Opening F → Type 0
  StoreOpened Start path request mode opening = ⊥
  StoreOpened (Then run does) path request mode opening =
      StoreOpens does path request mode opening ⊎ StoreOpened run path request mode opening

-- a source gave these bytes since it was opened, which its end sent; and more than these only if
-- the end has closed since, and what it sent is shorter than the file was measured
pub record GaveSince {F : Type 0} (sources : SourceMeaning F) (first : F) (e : EndState)
    (bytes : List ℕ) (last : F) : Type 0 where
  pub rest : List ℕ
  pub given : GivesInTurn sources first (bytes ++ rest) last
  pub going : outcome_of e.position.phase ≡ None → rest ≡ []
  pub whole : length bytes ≡ e.role.length → rest ≡ []
