-- The transfers that the server of a network opens, each at an endpoint that no other end of the
-- run has, so that a port may be used again; and what moved at each of them.
use Rattle.std.specs.List.{Contains}
use Rattle.std.specs.Prelude.{ℕ, ◌≡◌, List, Some, [], slice_get, ◌⊎◌, ◌∷◌, true, ◌++◌, None}
use Rattle.std.specs.Prelude.{if◌then◌else◌, Bool, ◌==◌, length, map, ◌≢◌, Option, suc}
use Rattle.std.specs.Prelude.{option_to_list, ◌+◌}
use Rattle.tftp_promises.specs.Common.{SourceMeaning, StoreMeaning, Endpoint, SinkMeaning, LoopStep}
use Rattle.tftp_promises.specs.Common.{LoopState, Run, Then, Start, TransferState, Request_answered}
use Rattle.tftp_promises.specs.Common.{is_same}
use Rattle.std.specs.Prelude.{option_map}
use Rattle.tftp_loop.specs.Steps.{At_port}
use Rattle.tftp_promises.specs.Moved.{Moved, nothing_moved, came_if, opening_moves, or_before}
use Rattle.tftp_promises.specs.Moved.{port_moves}
use Rattle.tftp_promises.specs.Order.{Programs, ClientOf}
use Rattle.tftp_promises.specs.Ports.{AreDistinct, Removes, opened_ports}
use Rattle.tftp_promises.specs.Programs.{endpoint, client_at, has_client, is_at_server}

-- their sum, which none of them exceeds
abbrev pub total : List ℕ → ℕ
total [] = 0
total (n ∷ numbers) = n + total numbers

-- the new place, or else that before
abbrev pub or_place : Option Endpoint → Endpoint → Endpoint
or_place (Some now) before = now
or_place None before = before

module _ {S F D G K : Type 0} {stores : StoreMeaning S D} {sources : SourceMeaning F}
    {inputs : SourceMeaning G} {outputs : SinkMeaning K}
    (programs : Programs stores sources inputs outputs) where
  -- the endpoint of a client of the network, or one of the server; all others are strangers'
  abbrev pub is_ours : Endpoint → Bool
  is_ours a =
      if has_client programs.clients a then true else is_at_server programs.ip programs.others a

  -- above all ports at the server's address and of its clients
  abbrev pub above : ℕ
  above =
      suc (total (programs.port ∷ opened_ports programs.server.run)
      + total (map (λ client. client.port) programs.clients) + total programs.others)

  -- where the server opens a transfer for the client at `from`, at this port, after `count` others:
  -- at the port; but one of a stranger, whose port another transfer may have too, at an endpoint of
  -- its own
  abbrev pub place : ℕ → Endpoint → ℕ → Endpoint
  place count from port =
      endpoint programs.ip (if is_ours from then port else above + count)

  -- where the transfer is that the run opened last at the port
  abbrev pub placed_at : ℕ → {first old new : LoopState S F D}
      → Run (LoopStep stores sources) first old → LoopStep stores sources old new → Option Endpoint
  placed_at port run (Request_answered answers) =
      option_map (λ held. place (length (opened_ports run)) answers.from port)
      (came_if (answers.tid == port) answers.steps.came)
  placed_at port run does = None

  abbrev pub place_at : ℕ → {first last : LoopState S F D}
      → Run (LoopStep stores sources) first last → Endpoint
  place_at port Start = endpoint programs.ip port
  place_at port (Then run does) = or_place (placed_at port run does) (place_at port run)

  -- a step of the run removed this transfer, which had closed and was at this place
  abbrev pub HasClosed : {first last : LoopState S F D} → Run (LoopStep stores sources) first last
      → ℕ → TransferState F D → Endpoint → Type 0
  HasClosed Start port transfer a = ⊥
  HasClosed (Then run does) port transfer a =
      (Removes does port transfer × (a ≡ place_at port run)) ⊎ HasClosed run port transfer a

  -- ---- the transfer at a place
  -- the transfer that a step opens there, as it opens
  abbrev pub opens_at : Endpoint → {first old new : LoopState S F D}
      → Run (LoopStep stores sources) first old → LoopStep stores sources old new
      → Option (TransferState F D)
  opens_at a run (Request_answered answers) =
      came_if (is_same (place (length (opened_ports run)) answers.from answers.tid) a)
      answers.steps.came
  opens_at a run does = None

  -- the transfer that the run opened there
  abbrev pub opened_at : Endpoint → {first last : LoopState S F D}
      → Run (LoopStep stores sources) first last → Option (TransferState F D)
  opened_at a Start = None
  opened_at a (Then run does) = or_before (opens_at a run does) (opened_at a run)

  -- what has moved at it after a step
  abbrev pub does_move : Endpoint → {first old new : LoopState S F D}
      → Run (LoopStep stores sources) first old → LoopStep stores sources old new → Moved → Moved
  does_move a run (At_port serves) moved =
      if is_same (place_at serves.timer.port run) a then port_moves serves.does moved else moved
  does_move a run (Request_answered answers) moved =
      opening_moves
      (came_if (is_same (place (length (opened_ports run)) answers.from answers.tid) a)
      answers.steps.came) moved
  does_move a run does moved = moved

  -- what has moved at it
  abbrev pub moved_at : Endpoint → {first last : LoopState S F D}
      → Run (LoopStep stores sources) first last → Moved
  moved_at a Start = nothing_moved
  moved_at a (Then run does) = does_move a run does (moved_at a run)

  -- ---- the premise
  -- the ports of the transfers that a run opened for clients of the network
  abbrev pub ours_by : {old new : LoopState S F D} → LoopStep stores sources old new → List ℕ
  ours_by (Request_answered answers) =
      if is_ours answers.from then option_to_list answers.left.opened.tid else []
  ours_by does = []

  abbrev pub our_ports : {first last : LoopState S F D} → Run (LoopStep stores sources) first last
      → List ℕ
  our_ports Start = []
  our_ports (Then run does) = ours_by does ++ our_ports run

  -- the ports of the server that its clients know: that of its requests, and those of their
  -- transfers
  abbrev pub server_ports : List ℕ
  server_ports = programs.port ∷ our_ports programs.server.run

  -- no two clients have one endpoint, no two of these ports of the server are one, and no client is
  -- at one of them, nor another server
  pub record AreEndsApart (ports : List ℕ) : Type 0 where
    pub server : AreDistinct ports
    pub clients : (j k : ℕ) (x y : ClientOf programs) → slice_get programs.clients j ≡ Some x →
        slice_get programs.clients k ≡ Some y → client_at x ≡ client_at y → j ≡ k
    pub apart : (k port : ℕ) (x : ClientOf programs) → slice_get programs.clients k ≡ Some x →
        Contains ports port → client_at x ≢ endpoint programs.ip port
    pub others : (port : ℕ) → Contains ports port → Contains programs.others port → ⊥

  -- the ports are fresh for the clients and their transfers; those of strangers may be any
  abbrev pub ArePortsFresh : Type 0
  ArePortsFresh = AreEndsApart server_ports

  -- distinct ports are fresh: if no two ends of the run have one endpoint
  abbrev pub DistinctPortsAreFresh : Type 0
  DistinctPortsAreFresh =
      AreEndsApart (programs.port ∷ opened_ports programs.server.run)
      → ArePortsFresh
