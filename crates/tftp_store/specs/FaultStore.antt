-- A store that injects faults: the calls that it refuses, and their effect.
use Rattle.std.specs.Prelude.{ℕ, ◌≡◌, Bool, true, false, ◌-◌, ◌==◌, if◌then◌else◌, ◌⊎◌, Option}
use Rattle.std.specs.Prelude.{Some, None, Result, Err}
use Rattle.tftp_file.specs.declared.fault.StoreFault.{StoreFault}
use Rattle.tftp_file.specs.declared.fault.StoreFault.TheVariants.{Full, Io, Memory}
use Rattle.tftp_file.specs.Source.{SourceMeaning}
use Rattle.std.specs.Result.{result_err}
use Rattle.tftp_store.specs.Store.{Stored, StoreMeaning}

-- the state of a store that injects faults
pub record FaultStoreState (S : Type 0) : Type 0 where
  -- the store below it
  pub inner : S
  -- the number of drafts begun, appends and commits before the one that it refuses, if any
  pub calls_left : Option ℕ
  -- the fault that a refused call returns
  pub fault : StoreFault
  -- it refuses every opening
  pub refuses_open : Bool
  -- a source that it opens fails at every fill
  pub fails_fill : Bool

-- the state of a source that it opened: the inner store's source, and whether every fill fails
pub record OpenedSourceState (F : Type 0) : Type 0 where
  pub source : F
  pub fails : Bool

-- the faults that a store can be set to return
abbrev pub IsInjected : StoreFault → Type 0
IsInjected fault = (fault ≡ Full) ⊎ (fault ≡ Io)

-- the next call is the refused one
abbrev pub is_due : Option ℕ → Bool
is_due None = false
is_due (Some calls) = calls == 0

-- the count after one more call: after the refused call nothing is counted
abbrev pub one_less : Option ℕ → Option ℕ
one_less None = None
one_less (Some calls) = if calls == 0 then None else Some (calls - 1)

-- the count after a call with this fault, or without one: a call that is out of memory is not
-- counted
abbrev pub after_fault : Option ℕ → Option StoreFault → Option ℕ
after_fault calls_left (Some Memory) = calls_left
after_fault calls_left _ = one_less calls_left

-- the count after a call with this result
abbrev pub after_call : {A : Type 0} → Option ℕ → Result A StoreFault → Option ℕ
after_call calls_left result = after_fault calls_left (result_err result)

-- a call changes only the inner store and the count; the refused call returns the fault, and
-- changes only the count
pub record Counts {S A : Type 0} (before after : FaultStoreState S)
    (result : Result A StoreFault) : Type 0 where
  pub counted : after
      ≡ record before { inner = after.inner; calls_left = after_call before.calls_left result }
  pub refused : is_due before.calls_left ≡ true
      → (result ≡ Err before.fault) × (after.inner ≡ before.inner)

-- a refused call returns the store's own fault, and any other call a fault of the inner store
abbrev pub MayAnswer : Bool → StoreFault → StoreFault → Type 0 → Type 0
MayAnswer true own fault inner = fault ≡ own
MayAnswer false own fault inner = inner

-- the effect of a call on the inner store: if it is the refused call, it is refused, and the inner
-- store is unchanged
abbrev pub CalledBelow : {S : Type 0} → Bool → StoreFault → S → S → Option StoreFault → Type 0
    → Type 0
CalledBelow true own before after fault inner = (fault ≡ Some own) × (after ≡ before)
CalledBelow false own before after fault inner = inner

-- the effect of a call on the store, by that on the inner one: the call is counted, and the inner
-- store changes as its own model states
pub record Called {S : Type 0} (inner : S → S → Type 0) (before after : FaultStoreState S)
    (fault : Option StoreFault) : Type 0 where
  pub counted : after ≡ record before {
    inner = after.inner;
    calls_left = after_fault before.calls_left fault;
  }
  pub below : CalledBelow (is_due before.calls_left) before.fault before.inner after.inner fault
      (inner before.inner after.inner)

-- the same of a call on a draft, which a refused call does not change
pub record CalledOnDraft {S D : Type 0} (inner : S → S → Type 0)
    (before after : FaultStoreState S) (draft draft' : D) (fault : Option StoreFault) : Type 0 where
  pub called : Called inner before after fault
  pub refused : is_due before.calls_left ≡ true → draft' ≡ draft

-- a call of the inner store that is not counted changes nothing else
pub record Passed {S : Type 0} (inner : S → S → Type 0)
    (before after : FaultStoreState S) : Type 0 where
  pub rest : after ≡ record before { inner = after.inner }
  pub below : inner before.inner after.inner

-- the model of the inner store without the setting to refuse a call
abbrev pub never_armed : Option Stored → Option Stored
never_armed None = None
never_armed (Some store) = Some (record store { refuses = false })

-- the model of such a store: that of the inner store, except for the refused call
abbrev pub fault_meaning : {S D : Type 0} → StoreMeaning S D → StoreMeaning (FaultStoreState S) D
fault_meaning inner =
    record {
      root = λ s. inner.root s.inner;
      is_set_to = λ s port. inner.is_set_to s.inner port;
      stored = λ s. never_armed (inner.stored s.inner);
      drafted = inner.drafted;
      may_refuse_open = λ s path fault.
          MayAnswer s.refuses_open s.fault fault (inner.may_refuse_open s.inner path fault);
      may_refuse_begin = λ s path replace fault.
          MayAnswer (is_due s.calls_left) s.fault fault
          (inner.may_refuse_begin s.inner path replace fault);
      must_refuse_open = λ s path fault.
          MayAnswer s.refuses_open s.fault fault (inner.must_refuse_open s.inner path fault);
      must_fail = λ s path want. (s.fails_fill ≡ true) ⊎ inner.must_fail s.inner path want;
      begun = λ path replace before after result.
          Called (λ s t. inner.begun path replace s t result) before after (result_err result);
      after_append = λ before draft bytes after draft' fault.
          CalledOnDraft (λ s t. inner.after_append s draft bytes t draft' fault) before after draft
          draft' fault;
      after_commit = λ before path draft replace after draft' fault.
          CalledOnDraft (λ s t. inner.after_commit s path draft replace t draft' fault) before after
          draft draft' fault;
      after_write_behind = Passed inner.after_write_behind;
      writes_behind = inner.writes_behind;
      may_refuse_append = λ s draft bytes fault.
          MayAnswer (is_due s.calls_left) s.fault fault
          (inner.may_refuse_append s.inner draft bytes fault);
      may_refuse_commit = λ s path draft replace fault.
          MayAnswer (is_due s.calls_left) s.fault fault
          (inner.may_refuse_commit s.inner path draft replace fault);
    }

-- the model of a source that it opened
abbrev pub opened_meaning : {F : Type 0} → SourceMeaning F → SourceMeaning (OpenedSourceState F)
opened_meaning inner =
    record {
      left = λ s. inner.left s.source;
      may_fail = λ s want. (s.fails ≡ true) ⊎ inner.may_fail s.source want;
      fails = λ s want. (s.fails ≡ true) ⊎ inner.fails s.source want;
      gives = λ s piece t. inner.gives s.source piece t.source;
      opens = λ root path mode length s. inner.opens root path mode length s.source;
    }
