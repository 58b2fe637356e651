-- What each call on a sink leaves of its state is so after a run.
use Rattle.std.proofs.Common.{rules}
use Rattle.tftp_client.proofs.Common.{ℕ, Bool, List, SinkMeaning, SourceMeaning, Files, Source, Sink, Action, Endpoint}
use Rattle.tftp_client.proofs.Common.{datagram_action, EndState, KeepsFiles, Acts, Turn, Converses, HandlesReceived}
use Rattle.tftp_client.proofs.Common.{State, WorksOnFile, Begins, Receives, Waits, Times, Rests}

module _ {S K : Type 0} (sources : SourceMeaning S) (sinks : SinkMeaning K) (P : K → Type 0)
    (stays : (before after : K) (committed : Bool) → sinks.becomes before after committed → P before → P after) where
  -- it holds of a sink
  abbrev pub OfSink : Files S K → Type 0
  OfSink (Source source) = Unit {0}
  OfSink (Sink sink) = P sink

  acts : (action : Action) (from : Endpoint) (bytes : List ℕ) (e : EndState) (files : Files S K) (turn : Turn)
      (files' : Files S K) → Acts sources sinks action from bytes e files turn files' → OfSink files → OfSink files'
  acts action from bytes e files turn files' a h = search rules

  loses : (files files' : Files S K) → KeepsFiles sources sinks files files' → OfSink files → OfSink files'
  loses files files' keeps h = search rules

  works : (files files' : Files S K) → WorksOnFile sources sinks files files' → OfSink files → OfSink files'
  works files files' work h = search rules

  handles : {port : ℕ} {from : Endpoint} {bytes : List ℕ} {s : State} {files : Files S K} {next : State}
      {files' : Files S K} → HandlesReceived sources sinks port from bytes s files next files' → OfSink files
      → OfSink files'
  handles h0 h = search (rules, acts, datagram_action, loses)

  -- after a run
  pub run_stays : {port : ℕ} {first : State} {file : Files S K} {s : State} {files : Files S K}
      → Converses sources sinks port first file s files → OfSink file → OfSink files
  run_stays Begins h = h
  run_stays (Receives run may time answers) h = handles answers.handles (run_stays run h)
  run_stays (Waits run may is time) h = run_stays run h
  run_stays (Times run elapsed) h = run_stays run h
  run_stays (Rests {s} {files} {files'} run work) h = works files files' work (run_stays run h)
