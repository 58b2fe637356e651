-- The file of a run stays a source, or a sink.
use Rattle.std.proofs.Common.{rules}
use Rattle.tftp_client.proofs.Common.{ℕ, List, Kind, SinkMeaning, SourceMeaning, Files, Action, Endpoint}
use Rattle.tftp_client.proofs.Common.{datagram_action, EndState, KeepsFiles, Acts, Turn, SocketEvent, Job, Converses}
use Rattle.tftp_client.proofs.Common.{HandlesReceived, State, WorksOnFile, Begins, Receives, Waits, Times, Rests}
use Rattle.tftp_client.proofs.Common.{IsFileOf, Transfers}
use Rattle.tftp_negotiate.specs.declared.known.Kind.TheVariants as kinds

module _ {S K : Type 0} (sources : SourceMeaning S) (sinks : SinkMeaning K) where
  abbrev IsOf : Kind → Files S K → Type 0
  IsOf kind files = IsFileOf sources sinks kind files

  module _ (kind : Kind) where
    acts : (action : Action) (from : Endpoint) (bytes : List ℕ) (e : EndState) (files : Files S K) (turn : Turn)
        (files' : Files S K) → Acts sources sinks action from bytes e files turn files' → IsOf kind files
        → IsOf kind files'
    acts action from bytes e files turn files' a h = search rules

    loses : (files files' : Files S K) → KeepsFiles sources sinks files files' → IsOf kind files → IsOf kind files'
    loses files files' keeps h = search rules

    works : (files files' : Files S K) → WorksOnFile sources sinks files files' → IsOf kind files → IsOf kind files'
    works files files' work h = search rules

    handles : {port : ℕ} {from : Endpoint} {bytes : List ℕ} {s : State} {files : Files S K} {next : State}
        {files' : Files S K} → HandlesReceived sources sinks port from bytes s files next files' → IsOf kind files
        → IsOf kind files'
    handles h0 h = search (rules, acts, datagram_action, loses)

    pub converses : {port : ℕ} {first : State} {file : Files S K} {s : State} {files : Files S K}
        → Converses sources sinks port first file s files → IsOf kind file → IsOf kind files
    converses Begins h = h
    converses (Receives run may time answers) h = handles answers.handles (converses run h)
    converses (Waits run may is time) h = converses run h
    converses (Times run elapsed) h = converses run h
    converses (Rests {s} {files} {files'} run work) h = works files files' work (converses run h)

  -- the file of a job
  pub is_file_of : {most port : ℕ} {job : Job} {before : List SocketEvent} {s : State} {files : Files S K} {count : ℕ}
      → Transfers sources sinks most port job before s files count → IsOf job.kind files
  is_file_of h0 = search (rules, converses)
