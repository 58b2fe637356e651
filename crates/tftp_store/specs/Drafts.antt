-- The calls on one draft in turn, and what each call of a store keeps.
use Rattle.std.specs.Prelude.{ℕ, ◌++◌, Bool, List, [], Option, None, Result, IfOk}
use Rattle.tftp_file.specs.declared.fault.StoreFault.{StoreFault}
use Rattle.tftp_store.specs.Store.{StoreMeaning}

-- the calls on a draft in turn, from its first to its last state: they took these bytes
pub data TakesInTurn {S D : Type 0} (stores : StoreMeaning S D) (first : D) : List ℕ → D
    → Type 0 where
  Took_nothing : TakesInTurn stores first [] first
  -- an append that is not refused takes its bytes after all earlier ones
  Took_more : {bytes piece : List ℕ} {draft draft' : D} (before after : S)
      → TakesInTurn stores first bytes draft
      → stores.after_append before draft piece after draft' None
      → TakesInTurn stores first (bytes ++ piece) draft'
  -- writing the draft back takes none
  Written_back : {bytes : List ℕ} {draft draft' : D} → TakesInTurn stores first bytes draft
      → stores.writes_behind draft draft' → TakesInTurn stores first bytes draft'

-- each call of a store, refused or not, keeps a fact of the store and one of each of its drafts
pub record CallsKeep {S D : Type 0} (OfStore : S → Type 0) (OfDraft : D → Type 0)
    (stores : StoreMeaning S D) : Type 0 where
  pub begun : (path : List ℕ) (replace : Bool) (before after : S) (result : Result D StoreFault)
      → OfStore before → stores.begun path replace before after result
      → OfStore after × IfOk result OfDraft
  pub appended : (bytes : List ℕ) (before after : S) (draft draft' : D) (fault : Option StoreFault)
      → OfStore before → OfDraft draft → stores.after_append before draft bytes after draft' fault
      → OfStore after × OfDraft draft'
  pub committed : (path : List ℕ) (replace : Bool) (before after : S) (draft draft' : D)
      (fault : Option StoreFault) → OfStore before → OfDraft draft
      → stores.after_commit before path draft replace after draft' fault
      → OfStore after × OfDraft draft'
  pub behind : (before after : S) → OfStore before → stores.after_write_behind before after
      → OfStore after
  pub drafts_behind : (draft draft' : D) → OfDraft draft → stores.writes_behind draft draft'
      → OfDraft draft'
