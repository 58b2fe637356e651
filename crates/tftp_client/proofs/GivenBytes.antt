-- What moved in the run of a sender is what its source gave, unless the end has failed.
use Rattle.std.proofs.Common.{rules}
use Rattle.tftp_client.proofs.Common.{◌≡◌, ℕ, Bool, true, false, List, [], ◌++◌, append-nil, refl, sym, ◌∙◌, subst}
use Rattle.tftp_client.proofs.Common.{if◌then◌else◌, true≢false, SinkMeaning, SourceMeaning, Files, Source, Sink}
use Rattle.tftp_client.proofs.Common.{Action, Endpoint, EndState, is_complete, KeepsFiles, Acts, Turn, after_turn}
use Rattle.tftp_client.proofs.Common.{block_length, data_bytes, refused_turn, result_count_is, sent_turn, Converses}
use Rattle.tftp_client.proofs.Common.{HandlesReceived, MayElapse, State, WorksOnFile, Begins, Receives, Waits, Times}
use Rattle.tftp_client.proofs.Common.{Rests, Answers, Loses, Moved, acts_move, handling_moves, nothing_moved, run_moves}
use Rattle.tftp_file.specs.Source.{GivesInTurn}
use Rattle.tftp_file.specs.Source.GivesInTurn.{Gave_nothing, Gave_more}
use Rattle.tftp_ends.specs.declared.error_reply.ErrorReply.TheVariants as replies
use Rattle.tftp_ends.specs.declared.outcome.Outcome.TheVariants as outcomes
use Rattle.tftp_client.proofs.HeldBytes.{complete_goes_on, failed, open_goes_on, undone}
use Rattle.tftp_client.proofs.StaysComplete.{OnlyResponds, at_datagram}

-- the second of two turns failed
over : (b : Bool) (sent refused : Turn) → failed refused.position.phase ≡ true → b ≡ false
    → failed (if b then sent else refused).position.phase ≡ true
over true sent refused h short = absurd (true≢false short)
over false sent refused h short = h

module _ {S K : Type 0} (sources : SourceMeaning S) (sinks : SinkMeaning K) (first : S) where
  -- a source gave these bytes since the run began
  abbrev pub AllGiven : Files S K → List ℕ → Type 0
  AllGiven (Source source) bytes = GivesInTurn sources first bytes source
  AllGiven (Sink sink) bytes = Unit {0}

  abbrev Unless_failed : EndState → Files S K → Moved → Type 0
  Unless_failed e files moved = failed e.position.phase ≡ false → AllGiven files moved.bytes

  -- a block that was given, and sent if it was whole
  gives : (whole : Bool) (source source' : S) (bytes piece : List ℕ) (closed : Bool) → (whole ≡ false → closed ≡ true)
      → closed ≡ false → GivesInTurn sources first bytes source → sources.gives source piece source'
      → GivesInTurn sources first (bytes ++ (if whole then piece else [])) source'
  gives true source source' bytes piece closed over still h given = Gave_more h given
  gives false source source' bytes piece closed over still h given = absurd (true≢false (sym (over refl) ∙ still))

  -- a call that gave no bytes
  gives_none : (source source' : S) (bytes : List ℕ) → GivesInTurn sources first bytes source
      → sources.gives source [] source' → GivesInTurn sources first bytes source'
  gives_none source source' bytes h none = rw (← append-nil bytes) (Gave_more h none)

  acts : (action : Action) (from : Endpoint) (bytes : List ℕ) (e : EndState) (files : Files S K) (turn : Turn)
      (files' : Files S K) (moved : Moved) → (is_complete e.position.phase ≡ true → OnlyResponds action)
      → AllGiven files moved.bytes → (a : Acts sources sinks action from bytes e files turn files')
      → Unless_failed (after_turn e turn) files' (acts_move sources sinks action from bytes e files turn files' a moved)
  acts action from bytes e files turn files' moved once h a still =
      search (
        rules,
        result_count_is,
        block_length,
        sent_turn,
        data_bytes,
        refused_turn,
        gives,
        failed,
        over,
        undone,
        is_complete,
      )

  loses : (files files' : Files S K) (bytes : List ℕ) → KeepsFiles sources sinks files files' → AllGiven files bytes
      → AllGiven files' bytes
  loses files files' bytes keeps h = search (rules, gives_none)

  works : (files files' : Files S K) (bytes : List ℕ) → WorksOnFile sources sinks files files' → AllGiven files bytes
      → AllGiven files' bytes
  works files files' bytes work h = search (rules, gives_none)

  handles : {port : ℕ} {from : Endpoint} {bytes : List ℕ} {s : State} {files : Files S K} {next : State}
      {files' : Files S K} (moved : Moved) (h : HandlesReceived sources sinks port from bytes s files next files')
      → Unless_failed s.end files moved → Unless_failed next.end files' (handling_moves h moved)
  handles {from = from} {bytes = bytes} {s = s} {files = files} moved (Answers {turn} {files'} is_open step) h =
      acts _ _ _ _ _ _ _ _ (at_datagram s.end from bytes step.decoded) (h (open_goes_on _ is_open)) step.acts
  handles {files = files} moved (Loses {files'} lost keeps) h = λ still. loses files files' moved.bytes keeps (h still)

  elapses : {port : ℕ} {s next : State} (files : Files S K) (moved : Moved) → MayElapse port s next
      → Unless_failed s.end files moved → Unless_failed next.end files moved
  elapses files moved h2 h = search rules

  converses : {port : ℕ} {begin : State} {file : Files S K} {s : State} {files : Files S K} (moved : Moved)
      (run : Converses sources sinks port begin file s files)
      → Unless_failed begin.end file moved → Unless_failed s.end files (run_moves run moved)
  converses moved Begins h = h
  converses moved (Receives {files' = files'} run may time answers) h =
      let now = run_moves run moved in
      let Ends : State → Type 0 = λ s. Unless_failed s.end files' (handling_moves answers.handles now) in
      subst Ends (sym answers.is) (handles now answers.handles (converses moved run h))
  converses moved (Waits run may is time) h = converses moved run h
  converses moved (Times {s} {next} {files} run elapsed) h =
      elapses files (run_moves run moved) elapsed (converses moved run h)
  converses moved (Rests {s} {files} {files'} run work) h =
      λ still. works files files' (run_moves run moved).bytes work (converses moved run h still)

  -- what moved in the run of an end that is complete
  pub gave_all : {port : ℕ} {begin : State} {s : State} {files : Files S K}
      (run : Converses sources sinks port begin (Source first) s files) → is_complete s.end.position.phase ≡ true
      → AllGiven files (run_moves run nothing_moved).bytes
  gave_all {s = s} run done = converses _ run (λ _. Gave_nothing) (complete_goes_on _ done)
