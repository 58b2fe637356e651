-- The lines that a server prints while it serves: one for each transfer that it removes (ours).
use Rattle.std.specs.Prelude.{ℕ, ◌≡◌, List, [], ◌∷◌, ◌++◌}
use Rattle.tftp_promises.specs.Common.{SourceMeaning, StoreMeaning, LoopStep, LoopState}
use Rattle.tftp_promises.specs.Common.{SocketEvent, Run, Then, Start, Printed, at_start}
use Rattle.tftp_promises.specs.Common.{ServerState, LoopConfig, Transfer_closed}
use Rattle.tftp_lines.specs.Printed.{line_text}
use Rattle.tftp_lines.specs.declared.printed.Printed.TheVariants.{Closed}

-- the printed lines of a trace, the newest first
abbrev pub printed_lines : List SocketEvent → List (List ℕ)
printed_lines [] = []
printed_lines (Printed line ∷ events) = line ∷ printed_lines events
printed_lines (event ∷ events) = printed_lines events

module _ {S F D : Type 0} {stores : StoreMeaning S D} {sources : SourceMeaning F} where
  -- the line of the transfer that a step removes, with its port, the port of its timer's peer and
  -- its outcome
  abbrev pub close_lines : {old new : LoopState S F D} → LoopStep stores sources old new
      → List (List ℕ)
  close_lines (Transfer_closed closes) =
      line_text (Closed closes.timer.port closes.timer.peer.port closes.outcome) ∷ []
  close_lines does = []

  -- the line of each transfer that a run removed, the newest first
  abbrev pub closed_lines : {first last : LoopState S F D}
      → Run (LoopStep stores sources) first last → List (List ℕ)
  closed_lines Start = []
  closed_lines (Then run does) = close_lines does ++ closed_lines run

module _ {S F D : Type 0} where
  -- at each time of a run its lines are those of the transfers that it removed, in their order
  abbrev pub EachLineIsAClose : StoreMeaning S D → SourceMeaning F → Type 0
  EachLineIsAClose stores sources =
      (config : LoopConfig) (port reading : ℕ) (first : ServerState S F D)
      (before : List SocketEvent) (now : LoopState S F D)
      (run : Run (LoopStep stores sources) (at_start config port first reading before) now)
      → printed_lines now.events ≡ closed_lines run ++ printed_lines before
