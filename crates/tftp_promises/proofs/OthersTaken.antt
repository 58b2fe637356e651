-- A client takes no answer of other servers where there are none.
use Rattle.tftp_promises.proofs.Common.{List, ℕ, rules, Endpoint, [], SourceMeaning, StoreMeaning, SinkMeaning, Files}
use Rattle.tftp_promises.proofs.Common.{State, Receives_one, ClientDoes, Answers, TakesOwn, Goes_on, ClientRun, Starts}
use Rattle.tftp_promises.proofs.Common.{HandlesReceived, Loses, DoesOwn, HandlesOwn}
use Rattle.tftp_promises.specs.Joined.{ServersAloneAreJoined}
use Rattle.tftp_promises.proofs.Orders.{nothing_in}

module _ {G K : Type 0} {inputs : SourceMeaning G} {outputs : SinkMeaning K} (ip : List ℕ) where
  handles_none : {port : ℕ} {from : Endpoint} {bytes : List ℕ} {s next : State} {files files' : Files G K}
      (handles : HandlesReceived inputs outputs port from bytes s files next files') → HandlesOwn ip [] handles
  handles_none {from = from} (Answers still step) = λ no_peer h. nothing_in from.port h.other
  handles_none (Loses lost keeps) = tt

  does_none : {port : ℕ} {s s' : State} {files files' : Files G K}
      (does : ClientDoes inputs outputs port s files s' files') → DoesOwn ip [] does
  does_none (Receives_one may later handles) = handles_none handles
  does_none does = tt

  pub takes_none : {port : ℕ} {first : State} {file : Files G K} {s : State} {files : Files G K}
      (run : ClientRun inputs outputs port first file s files) → TakesOwn ip [] run
  takes_none Starts = tt
  takes_none (Goes_on run does) = (takes_none run, does_none does)

pub alone_joined : {S F D G K : Type 0} (stores : StoreMeaning S D) (sources : SourceMeaning F)
    (inputs : SourceMeaning G) (outputs : SinkMeaning K) → ServersAloneAreJoined stores sources inputs outputs
alone_joined stores sources inputs outputs programs order alone is_order honest fresh =
    search (rules, takes_none)
