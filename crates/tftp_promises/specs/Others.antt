-- Other servers at the address of a server, behind the same request port: a request may come to any
-- of them, and the client takes the first that answers (RFC 1350, section 4).
use Rattle.std.specs.List.{Contains}
use Rattle.std.specs.Prelude.{ℕ, ◌≡◌, List, None}
use Rattle.tftp_promises.specs.Common.{SourceMeaning, Endpoint, SinkMeaning, State, Files}
use Rattle.tftp_promises.specs.Common.{HandlesReceived, Answers, Loses}
use Rattle.tftp_rules.specs.OpenEnds.{peer_of}
use Rattle.tftp_promises.specs.ClientRuns.{ClientDoes, Receives_one, ClientRun, Starts, Goes_on}
use Rattle.tftp_promises.specs.Order.{IsError}
use Rattle.tftp_promises.specs.Programs.{ClientProgram}

-- a datagram of another server, at one of these ports of the address, that is no ERROR
pub record IsOtherAnswer (ip others : List ℕ) (from : Endpoint) (bytes : List ℕ) : Type 0 where
  pub near : from.ip ≡ ip
  pub other : Contains others from.port
  pub no_error : IsError bytes → ⊥

module _ {G K : Type 0} {inputs : SourceMeaning G} {outputs : SinkMeaning K}
    (ip others : List ℕ) where
  -- a client that has no peer makes no step at one
  abbrev pub HandlesOwn : {port : ℕ} {from : Endpoint} {bytes : List ℕ} {s next : State}
      {files files' : Files G K}
      → HandlesReceived inputs outputs port from bytes s files next files' → Type 0
  HandlesOwn {from = from} {bytes = bytes} {s = s} (Answers still step) =
      peer_of s.end.position.phase ≡ None → IsOtherAnswer ip others from bytes → ⊥
  HandlesOwn (Loses lost keeps) = Unit {0}

  abbrev pub DoesOwn : {port : ℕ} {s s' : State} {files files' : Files G K}
      → ClientDoes inputs outputs port s files s' files' → Type 0
  DoesOwn (Receives_one may later handles) = HandlesOwn handles
  DoesOwn does = Unit {0}

  -- so the peer that it takes is no other server
  abbrev pub TakesOwn : {port : ℕ} {first : State} {file : Files G K} {s : State}
      {files : Files G K} → ClientRun inputs outputs port first file s files → Type 0
  TakesOwn Starts = Unit {0}
  TakesOwn (Goes_on run does) = TakesOwn run × DoesOwn does

-- a client takes the answers of one port only: it makes no step at those of servers at other ports
abbrev pub ClientsTakeOne : {G K : Type 0} → SourceMeaning G → SinkMeaning K → Type 0
ClientsTakeOne inputs outputs =
    (to : Endpoint) (client : ClientProgram inputs outputs to)
    → (port : ℕ) × ((others : List ℕ) → (Contains others port → ⊥)
    → TakesOwn to.ip others client.runs)
