-- A source and a sink in memory, and the calls that the sink refuses.
use Rattle.std.specs.Prelude.{ℕ, ◌≡◌, ◌+◌, ◌<◌, Bool, true, false, List, [], length, Some, ◌⊎◌, ⊤}
use Rattle.tftp_file.specs.declared.fault.StoreFault.{StoreFault}
use Rattle.tftp_file.specs.declared.fault.StoreFault.TheVariants.{Full, Memory}
use Rattle.tftp_file.specs.Source.{SourceMeaning}
use Rattle.tftp_file.specs.Sink.{Holding, SinkMeaning}

-- the content of a sink, its capacity, and whether it is set to refuse each commit
pub record MemSinkState : Type 0 where
  pub holding : Holding
  pub room : ℕ
  pub refuses_commit : Bool

-- an empty sink
abbrev pub new_mem_sink : ℕ → Bool → MemSinkState
new_mem_sink room refuses_commit = record {
  holding = record { bytes = []; committed = false; refuses = false };
  room = room;
  refuses_commit = refuses_commit;
}

-- the sink, set to refuse its next call or not
abbrev pub with_armed : MemSinkState → Bool → MemSinkState
with_armed sink armed = record sink { holding = record sink.holding { refuses = armed } }

-- the sink is full
abbrev pub IsFull : MemSinkState → Type 0
IsFull sink = length sink.holding.bytes ≡ sink.room

-- an append returns Full if set to or beyond the capacity, and otherwise fails only with Memory
abbrev pub MayRefuseAppend : MemSinkState → List ℕ → StoreFault → Type 0
MayRefuseAppend sink piece Full =
    (sink.holding.refuses ≡ true) ⊎ (sink.room < length sink.holding.bytes + length piece)
MayRefuseAppend sink piece Memory = ⊤
MayRefuseAppend sink piece fault = ⊥

-- a commit returns Full if set to, and fails in no other way
abbrev pub MayRefuseCommit : MemSinkState → StoreFault → Type 0
MayRefuseCommit sink Full = (sink.holding.refuses ≡ true) ⊎ (sink.refuses_commit ≡ true)
MayRefuseCommit sink fault = ⊥

-- an append must be refused with Full if set to, or if there are bytes and the sink is full
abbrev pub MustRefuseAppend : MemSinkState → List ℕ → Type 0
MustRefuseAppend sink piece =
    (sink.holding.refuses ≡ true) ⊎ (IsFull sink × (0 < length piece))

-- a commit must be refused with Full if set to
abbrev pub MustRefuseCommit : MemSinkState → Type 0
MustRefuseCommit sink = (sink.holding.refuses ≡ true) ⊎ (sink.refuses_commit ≡ true)

-- the model of a sink in memory
abbrev pub memory_sink : SinkMeaning MemSinkState
memory_sink =
    record {
      held = λ sink. Some sink.holding;
      may_refuse_append = MayRefuseAppend;
      may_refuse_commit = MayRefuseCommit;
      becomes = λ before after committed. ⊤;
      after_append = λ before piece after fault. MustRefuseAppend before piece → fault ≡ Some Full;
      after_commit = λ before after fault. MustRefuseCommit before → fault ≡ Some Full;
    }

-- the model of a source in memory: its wire text is known, and it never fails to read
abbrev pub memory_source : SourceMeaning (List ℕ)
memory_source =
    record {
      left = λ text. Some text;
      may_fail = λ text want. ⊥;
      fails = λ text want. ⊥;
      gives = λ text piece rest. ⊤;
      opens = λ root path mode length text. ⊤;
    }
