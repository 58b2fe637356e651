-- What the draft of a transfer of the server took, call by call, since the server's store began it,
-- and how it was committed.
use Rattle.std.specs.Prelude.{ℕ, ◌≡◌, List, ◌⊎◌, true, false, None, Bool, Ok}
use Rattle.tftp_promises.specs.Common.{SourceMeaning, StoreMeaning, LoopStep, LoopState, Run}
use Rattle.tftp_promises.specs.Common.{EndState, is_complete, Then, Start, Request_answered}
use Rattle.tftp_promises.specs.Common.{outcome_of, Mode, Known}
use Rattle.tftp_store.specs.Drafts.{TakesInTurn}
use Rattle.tftp_server.specs.Request.{AsksToWrite}

module _ {S F D : Type 0} {stores : StoreMeaning S D} {sources : SourceMeaning F} where
  -- a step answers this request for the path, in this mode: the store began this draft for it, to
  -- replace a file or not
  abbrev pub StoreBegins : {old new : LoopState S F D} → LoopStep stores sources old new
      → (path request : List ℕ) → Mode → Bool → D → Type 0
  StoreBegins {old} (Request_answered answers) path request mode replace draft =
      (answers.bytes ≡ request) × (old.server.config.overwrite ≡ replace) × (agreed : List Known)
      × (asks : AsksToWrite stores sources old.server answers.from answers.bytes path mode agreed
      answers.steps.came)
      × (asks.draft ≡ Ok draft)
  StoreBegins does path request mode replace draft = ⊥

  -- a step of the run did
  abbrev pub StoreBegan : {first last : LoopState S F D} → Run (LoopStep stores sources) first last
      → (path request : List ℕ) → Mode → Bool → D → Type 0
  StoreBegan Start path request mode replace draft = ⊥
  StoreBegan (Then run does) path request mode replace draft =
      StoreBegins does path request mode replace draft
      ⊎ StoreBegan run path request mode replace draft

  -- the server had this store after a step of the run
  abbrev pub HadStore : {first last : LoopState S F D} → Run (LoopStep stores sources) first last
      → S → Type 0
  HadStore Start store = ⊥
  HadStore (Then {last} run does) store = (last.server.store ≡ store) ⊎ HadStore run store

module _ {S D : Type 0} (stores : StoreMeaning S D) (HasBeen : S → Type 0) (path : List ℕ)
    (replace : Bool) (first : D) where
  -- a draft took these bytes since it was begun, and then a commit of it under the path succeeded,
  -- after which the server had this store
  pub record WasCommitted (bytes : List ℕ) : Type 0 where
    pub draft : D
    pub took : TakesInTurn stores first bytes draft
    pub before : S
    pub after : S
    pub left : D
    pub commits : stores.after_commit before path draft replace after left None
    pub been : HasBeen after

  -- a draft has taken these bytes since it was begun, as long as its end is open and not complete;
  -- once that is complete, the draft was committed after them
  pub record TookSince (e : EndState) (bytes : List ℕ) (last : D) : Type 0 where
    pub going : outcome_of e.position.phase ≡ None → is_complete e.position.phase ≡ false
        → TakesInTurn stores first bytes last
    pub done : is_complete e.position.phase ≡ true → WasCommitted bytes
