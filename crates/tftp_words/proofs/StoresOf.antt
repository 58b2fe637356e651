-- What the store of a run opened for a request, or began: as every store of the run is, so was that one.
use Rattle.tftp_words.proofs.Common.{◌≡◌, ℕ, Bool, List, Result, Ok, subst, inl, inr, Mode, SourceMeaning, StoreMeaning}
use Rattle.tftp_words.proofs.Common.{Run, LoopState, LoopStep, StoreBegan, StoreOpened}
use Rattle.std.specs.Prelude.{IfOk}
use Rattle.tftp_file.specs.declared.fault.StoreFault.{StoreFault}
use Rattle.tftp_store.specs.declared.store.Opening.{Opening}
use Rattle.tftp_loop.specs.Run.Run.{Start, Then}
use Rattle.tftp_loop.specs.Steps.{Request_answered}
use Rattle.tftp_promises.specs.Drafts.{StoreBegins}
use Rattle.tftp_promises.specs.Given.{StoreOpens}

-- a store that was so began the draft
pub record BegunBy {S D : Type 0} (stores : StoreMeaning S D) (Is : S → Type 0) (path : List ℕ) (replace : Bool)
    (draft : D) : Type 0 where
  pub before : S
  pub after : S
  pub is_so : Is before
  pub begun : stores.begun path replace before after (Ok draft)

module _ {S F D : Type 0} {stores : StoreMeaning S D} {sources : SourceMeaning F} (path request : List ℕ) (mode : Mode) where
  -- a source of its root
  module _ (root : List ℕ) (opening : Opening F) where
    opens_there : {old new : LoopState S F D} (does : LoopStep stores sources old new) →
        stores.root old.server.store ≡ root → StoreOpens does path request mode opening →
        sources.opens root path mode opening.length opening.source
    opens_there {old} (Request_answered answers) same h =
        subst (λ (r : List ℕ). sources.opens r path mode opening.length opening.source) same
        (subst (λ (r : Result (Opening F) StoreFault). IfOk r (λ o. sources.opens (stores.root old.server.store) path
        mode o.length o.source)) h.3 h.2.opened)
    opens_there does same none = absurd none

    pub opened_there : {first last : LoopState S F D} (run : Run (LoopStep stores sources) first last) →
        ((state : LoopState S F D) → Run (LoopStep stores sources) first state → stores.root state.server.store ≡ root) →
        StoreOpened run path request mode opening → sources.opens root path mode opening.length opening.source
    opened_there Start stays none = absurd none
    opened_there (Then {middle} run does) stays (inl here) = opens_there does (stays middle run) here
    opened_there (Then run does) stays (inr before) = opened_there run stays before

  -- a draft
  module _ (Is : S → Type 0) (replace : Bool) (draft : D) where
    begins_there : {old new : LoopState S F D} (does : LoopStep stores sources old new) → Is old.server.store →
        StoreBegins does path request mode replace draft → BegunBy stores Is path replace draft
    begins_there {old} (Request_answered answers) is h = record {
      before = old.server.store;
      after = h.3.store;
      is_so = is;
      begun =
          subst (λ (r : Bool). stores.begun path r old.server.store h.3.store (Ok draft)) h.1
          (subst (λ (d : Result D StoreFault). stores.begun path old.server.config.overwrite old.server.store h.3.store d)
          h.4 h.3.begun);
    }
    begins_there does is none = absurd none

    pub began_there : {first last : LoopState S F D} (run : Run (LoopStep stores sources) first last) →
        ((state : LoopState S F D) → Run (LoopStep stores sources) first state → Is state.server.store) →
        StoreBegan run path request mode replace draft → BegunBy stores Is path replace draft
    began_there Start all none = absurd none
    began_there (Then {middle} run does) all (inl here) = begins_there does (all middle run) here
    began_there (Then run does) all (inr before) = began_there run all before
