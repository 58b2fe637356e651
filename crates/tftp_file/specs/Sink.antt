-- The model of a sink, and the effect of an append and a commit on it. A sink that is set to refuse
-- a call clears the setting when it does.
use Rattle.std.specs.Prelude.{ℕ, ◌≡◌, Bool, true, false, List, ◌++◌, Option, Some, None, Result, Ok}
use Rattle.std.specs.Prelude.{Err, ⊤}
use Rattle.std.specs.Borrow.{MutBor}
use Rattle.tftp_file.specs.declared.fault.StoreFault.{StoreFault}
use Rattle.tftp_file.specs.declared.fault.StoreFault.TheVariants.{Full, Memory}
use Rattle.tftp_file.specs.Block.{IsPrefixOf}
use Rattle.tftp_file.specs.Source.{StaysKnown}

-- the content of a sink: its bytes, whether they are committed, and whether it is set to refuse its
-- next call
pub record Holding : Type 0 where
  pub bytes : List ℕ
  pub committed : Bool
  pub refuses : Bool

-- the model of the sinks of one type
pub record SinkMeaning (K : Type 0) : Type 1 where
  -- the content, or None if it is not known
  pub held : K → Option Holding
  -- an append of these bytes may return this fault
  pub may_refuse_append : K → List ℕ → StoreFault → Type 0
  -- a commit may return this fault
  pub may_refuse_commit : K → StoreFault → Type 0
  -- the effect of a call on the state of the sink besides its content: true after a successful
  -- commit, false after every other call
  pub becomes : K → K → Bool → Type 0
  -- what an append of these bytes leaves, if refused with this fault or not refused: it states
  -- which appends must be refused
  pub after_append : K → List ℕ → K → Option StoreFault → Type 0
  -- the same, of a commit
  pub after_commit : K → K → Option StoreFault → Type 0

-- the model of sinks of which nothing is known: each call may be refused, with any fault
abbrev pub unknown_sink : {K : Type 0} → SinkMeaning K
unknown_sink =
    record {
      held = λ k. None;
      may_refuse_append = λ k bytes fault. ⊤;
      may_refuse_commit = λ k fault. ⊤;
      becomes = λ k l committed. ⊤;
      after_append = λ k bytes l fault. ⊤;
      after_commit = λ k l fault. ⊤;
    }

-- the model of a value that contains a sink
abbrev pub sink_through : {K L : Type 0} → SinkMeaning L → (K → L) → SinkMeaning K
sink_through meaning seen =
    record {
      held = λ k. meaning.held (seen k);
      may_refuse_append = λ k bytes fault. meaning.may_refuse_append (seen k) bytes fault;
      may_refuse_commit = λ k fault. meaning.may_refuse_commit (seen k) fault;
      becomes = λ k l committed. meaning.becomes (seen k) (seen l) committed;
      after_append = λ k bytes l fault. meaning.after_append (seen k) bytes (seen l) fault;
      after_commit = λ k l fault. meaning.after_commit (seen k) (seen l) fault;
    }

-- the model of a borrow of a sink
abbrev pub borrowed_sink : {K : Type 0} → SinkMeaning K → SinkMeaning (MutBor K)
borrowed_sink meaning = sink_through meaning (λ k. k.now)

-- the sink after it has refused a call as set
abbrev pub disarmed : Holding → Holding
disarmed holding = record holding { refuses = false }

-- the sink after an append: its content is not committed
abbrev pub with_piece : Holding → List ℕ → Holding
with_piece holding piece = record holding { bytes = holding.bytes ++ piece; committed = false }

-- the sink after a commit
abbrev pub as_committed : Holding → Holding
as_committed holding = record holding { committed = true }

-- a call was refused as set: it returns Full, and clears the setting
pub record RefusedAsArmed {A : Type 0} (before : Holding) (after : Option Holding)
    (result : Result A StoreFault) : Type 0 where
  pub answer : result ≡ Err Full
  pub leaves : after ≡ Some (disarmed before)

-- a prefix of the piece is appended, or the sink is unchanged
pub record KeptPrefix (before : Holding) (after : Option Holding) (piece : List ℕ) : Type 0 where
  pub holding : Holding
  pub leaves : after ≡ Some holding
  pub kept : List ℕ
  pub prefix : IsPrefixOf kept piece
  pub bytes : holding.bytes ≡ before.bytes ++ kept
  pub uncommitted : holding.committed ≡ true → holding ≡ before
  pub refuses : holding.refuses ≡ before.refuses

-- the effect of an append on a sink that is not set to refuse it
abbrev pub AppendsFreely : {A : Type 0} → Holding → Option Holding → List ℕ → Result A StoreFault
    → Type 0
AppendsFreely before after piece (Ok done) = after ≡ Some (with_piece before piece)
AppendsFreely before after piece (Err Memory) = after ≡ Some before
AppendsFreely before after piece (Err fault) = KeptPrefix before after piece

-- the effect of a commit on a sink that is not set to refuse it
abbrev pub CommitsFreely : {A : Type 0} → Holding → Option Holding → Result A StoreFault → Type 0
CommitsFreely before after (Ok done) = after ≡ Some (as_committed before)
CommitsFreely before after (Err fault) = after ≡ Some before

-- the effect of a call, by whether the sink is set to refuse it
abbrev pub UnlessArmed : {A : Type 0} → Bool → Holding → Option Holding → Result A StoreFault
    → Type 0 → Type 0
UnlessArmed true before after result freely = RefusedAsArmed before after result
UnlessArmed false before after result freely = freely

-- the effect of an append on a sink, by its model before and after it
abbrev pub Appends : {A : Type 0} → Option Holding → Option Holding → List ℕ → Result A StoreFault
    → Type 0
Appends None after piece result = ⊤
Appends (Some before) after piece result =
    UnlessArmed before.refuses before after result (AppendsFreely before after piece result)

-- the effect of a commit on a sink, by its model before and after it
abbrev pub Commits : {A : Type 0} → Option Holding → Option Holding → Result A StoreFault → Type 0
Commits None after result = ⊤
Commits (Some before) after result =
    UnlessArmed before.refuses before after result (CommitsFreely before after result)

-- the content is unchanged, and no more calls may be refused
pub record WritesBehind {K : Type 0} (sinks : SinkMeaning K) (before after : K) : Type 0 where
  pub held : StaysKnown (sinks.held before) (sinks.held after)
  pub may_refuse_append : (bytes : List ℕ) (fault : StoreFault)
      → sinks.may_refuse_append after bytes fault → sinks.may_refuse_append before bytes fault
  pub may_refuse_commit : (fault : StoreFault)
      → sinks.may_refuse_commit after fault → sinks.may_refuse_commit before fault
