-- A received file is not committed while its end is not complete.
use Rattle.std.proofs.Common.{rules}
use Rattle.tftp_client.proofs.Common.{◌≡◌, false, List, ℕ, Option, Some, refl, true≢false, Holding, SinkMeaning}
use Rattle.tftp_client.proofs.Common.{SourceMeaning, StoreFault, Files, Source, Sink, Action, Endpoint, datagram_action}
use Rattle.tftp_client.proofs.Common.{EndState, is_complete, KeepsFiles, Acts, Turn, after_turn, holding, Converses}
use Rattle.tftp_client.proofs.Common.{HandlesReceived, State, WorksOnFile, Begins, Receives, Waits, Times, Rests}
use Rattle.tftp_client.proofs.Common.{nothing_moved, IsNew}
use Rattle.tftp_file.specs.declared.fault.StoreFault.TheVariants as faults
use Rattle.tftp_client.specs.Taken.{nothing}
use Rattle.tftp_client.proofs.StaysComplete.{IsDone, elapses, handles}

-- ---- the content of a sink
-- what is known of a sink is not committed
abbrev pub IsNotYet : Option Holding → Type 0
IsNotYet held = (holding : Holding) × (held ≡ Some holding) × (holding.committed ≡ false)

module _ {S K : Type 0} (sources : SourceMeaning S) (sinks : SinkMeaning K) where
  -- a received file is not committed
  abbrev pub NoneCommitted : Files S K → Type 0
  NoneCommitted (Source source) = Unit {0}
  NoneCommitted (Sink sink) = IsNotYet (sinks.held sink)

  acts : (action : Action) (from : Endpoint) (bytes : List ℕ) (e : EndState) (files : Files S K) (turn : Turn)
      (files' : Files S K) → Acts sources sinks action from bytes e files turn files'
      → (IsDone (after_turn e turn) → ⊥) → NoneCommitted files → NoneCommitted files'
  acts action from bytes e files turn files' a undone h = search rules

  loses : (files files' : Files S K) → KeepsFiles sources sinks files files' → NoneCommitted files → NoneCommitted files'
  loses files files' keeps h = search rules

  works : (files files' : Files S K) → WorksOnFile sources sinks files files' → NoneCommitted files
      → NoneCommitted files'
  works files files' work h = search rules

  handled : {port : ℕ} {from : Endpoint} {bytes : List ℕ} {s : State} {files : Files S K} {next : State}
      {files' : Files S K} → HandlesReceived sources sinks port from bytes s files next files'
      → (IsDone next.end → ⊥) → NoneCommitted files → NoneCommitted files'
  handled h0 undone h = search (rules, acts, datagram_action, loses)

  converses : {port : ℕ} {first : State} {file : Files S K} {s : State} {files : Files S K}
      (run : Converses sources sinks port first file s files) → NoneCommitted file → (IsDone s.end → ⊥)
      → NoneCommitted files
  converses Begins h undone = h
  converses (Receives {files' = files'} run may time answers) h undone =
      let after : IsDone answers.next.end → ⊥ = λ done. undone (rw (answers.is) done) in
      handled answers.handles after (converses run h (λ done. after (handles _ _ nothing_moved answers.handles done).0))
  converses (Waits run may is time) h undone = converses run h undone
  converses (Times run elapsed) h undone = converses run h (λ done. undone (elapses sources sinks elapsed done))
  converses (Rests {s} {files} {files'} run work) h undone = works _ _ work (converses run h undone)

  begins : (file : Files S K) → IsNew sources sinks file → NoneCommitted file
  begins (Source source) new = tt
  begins (Sink sink) new = (nothing, new, refl)

  -- after a run that began with a new file
  pub uncommitted : {port : ℕ} {first : State} {file : Files S K} {s : State} {files : Files S K}
      (run : Converses sources sinks port first file s files) → IsNew sources sinks file
      → is_complete s.end.position.phase ≡ false → NoneCommitted files
  uncommitted {file = file} run new incomplete = search (rules, converses, begins, true≢false)
