-- The transfers of a run: their ports, the one that a step removes, and the files under their
-- paths.
use Rattle.std.specs.Prelude.{ℕ, ◌≡◌, List, Some, [], slice_get, ◌++◌, option_to_list}
use Rattle.tftp_promises.specs.Common.{SourceMeaning, StoreMeaning, LoopStep, LoopState, Run, Then}
use Rattle.tftp_promises.specs.Common.{Start, TransferState, Request_answered, at, Transfer_closed}

module _ {S F D : Type 0} {stores : StoreMeaning S D} {sources : SourceMeaning F} where
  -- the port of the transfer that a step opens
  abbrev pub opened_by : {old new : LoopState S F D} → LoopStep stores sources old new → List ℕ
  opened_by (Request_answered answers) = option_to_list answers.left.opened.tid
  opened_by does = []

  -- the ports of all transfers that a run opened
  abbrev pub opened_ports : {first last : LoopState S F D}
      → Run (LoopStep stores sources) first last → List ℕ
  opened_ports Start = []
  opened_ports (Then run does) = opened_by does ++ opened_ports run

  -- the step removes this transfer, which has closed
  abbrev pub Removes : {old new : LoopState S F D} → LoopStep stores sources old new → ℕ
      → TransferState F D → Type 0
  Removes {old} (Transfer_closed closes) port transfer =
      (port ≡ closes.timer.port) × (at port old.server.held ≡ Some transfer)
  Removes does port transfer = ⊥

-- no port is there twice
abbrev pub AreDistinct : List ℕ → Type 0
AreDistinct ports = (j k port : ℕ) → slice_get ports j ≡ Some port → slice_get ports k ≡ Some port
    → j ≡ k
