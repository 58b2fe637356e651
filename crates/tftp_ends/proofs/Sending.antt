-- A sender's step, from the result of its read. For `End::send` and `End::send_first`.
use Rattle.std.proofs.Common.{rules}
use Rattle.tftp_ends.proofs.Common.{◌≡◌, ℕ, Bool, true, false, List, Some, refl, ap, ◌∙◌, DEFAULT_BLOCK, SourceMeaning}
use Rattle.tftp_ends.proofs.Common.{Send, Endpoint, Outgoing, Sending, Terms, Step, EndState, step_of, refused, Turn}
use Rattle.tftp_ends.proofs.Common.{Lends, with_position, data_bytes, sent_turn, refused_turn, block_length, reported}
use Rattle.tftp_ends.specs.declared.error_reply.ErrorReply.TheVariants.{FileChanged}
use Rattle.tftp_ends.specs.declared.outcome.Outcome.TheVariants.{SourceFault}
use Rattle.tftp_ends.specs.declared.outgoing.Outgoing.TheVariants.{LastSent, Error}
use Rattle.tftp_ends.specs.OneFile.{SenderActs}
use Rattle.tftp_ends.specs.Opening.{FailsToStart}
use Rattle.tftp_ends.specs.Room.{ReadsData}
use Rattle.tftp_ends.specs.Step.{Sends, AcksAgain, in_phase, having_sent}
use Rattle.tftp_ends.specs.Step.{filled_turn}

-- without DATA 1 a read cannot be served, and the source has the bytes left that the fill left
pub fails_to_start : {S : Type 0} (sources : SourceMeaning S) (length : ℕ) (source source' : S) (old buffer : List ℕ) →
    ReadsData (sources.left source) (sources.left source')
    (sources.may_fail source (block_length length DEFAULT_BLOCK 1))
    (sources.fails source (block_length length DEFAULT_BLOCK 1)) (λ piece. sources.gives source piece source') 1
    (block_length length DEFAULT_BLOCK 1) old buffer false →
    FailsToStart sources length source source'
fails_to_start sources length source source' old buffer o =
    record {
      cannot = search rules;
      left = refl;
      gives = o.gave;
    }

module _ {S : Type 0} (sources : SourceMeaning S) (terms : Terms) (number : ℕ) (from : Endpoint) (e : EndState)
    (source source' : S) (buffer : List ℕ) where
  -- the result of reading the next block
  abbrev pub ReadsNext : Bool → Type 0
  ReadsNext is_whole =
      ReadsData (sources.left source) (sources.left source')
      (sources.may_fail source (block_length e.role.length terms.size number))
      (sources.fails source (block_length e.role.length terms.size number))
      (λ piece. sources.gives source piece source') number
      (block_length e.role.length terms.size number) e.position.last_sent buffer is_whole

  -- a sender's step for an action that sends, and the bytes that the call lends
  abbrev pub IsSent : EndState → Outgoing → Type 0
  IsSent e' outgoing =
      (turn : Turn) × SenderActs sources (Send terms number) from e source turn source'
      × AcksAgain e turn (Send terms number) × Lends e turn e' (Some from) outgoing

  -- a sender's step and its report, and the bytes that the call lends
  abbrev pub IsReported : EndState → Step → Outgoing → Type 0
  IsReported e' step outgoing =
      (turn : Turn) × Sends sources terms number from e source turn source'
      × Lends e turn e' step.to outgoing × (step ≡ reported e turn)

  report : (e' : EndState) (outgoing : Outgoing) (step : Step) → IsSent e' outgoing →
      step ≡ step_of e.position.phase e'.position.phase (Some from) → IsReported e' step outgoing
  report e' outgoing step s is = search rules

  -- the block is sent, and a timeout retransmits it
  whole : (o : ReadsNext true) (e' : EndState) →
      e' ≡ with_position (having_sent (record { to = from; bytes = buffer }) (in_phase (Sending terms number) e)) e →
      IsSent e' LastSent
  whole o e' s =
      let is : filled_turn terms number from o.piece e o.answer ≡ sent_turn (Sending terms number) from (data_bytes
      number o.piece) e = rw (← o.whole) refl in
      let state : e' ≡ with_position (having_sent (record { to = from; bytes = data_bytes number o.piece }) (in_phase
      (Sending terms number) e)) e =
      s ∙ ap (λ (b : List ℕ). with_position (having_sent (record { to = from; bytes = b }) (in_phase (Sending terms
      number) e)) e) o.holds.0 in
      let lends : Lends e (sent_turn (Sending terms number) from (data_bytes number o.piece) e) e' (Some from) LastSent
      =
      record { state = state; goes = refl; bytes = ap (λ (x : EndState). x.position.last_sent) state } in search rules

  pub sent_whole : (o : ReadsNext true) (e' : EndState) (step : Step) →
      e' ≡ with_position (having_sent (record { to = from; bytes = buffer }) (in_phase (Sending terms number) e)) e →
      step ≡ step_of e.position.phase (Sending terms number) (Some from) → IsReported e' step LastSent
  sent_whole o e' step s is = search (rules, report, whole, step_of)

  -- the file has changed
  changed : (o : ReadsNext false) (e' : EndState) →
      e' ≡ with_position (in_phase (refused (Some terms) SourceFault e.position.phase) e) e →
      IsSent e' (Error FileChanged)
  changed o e' s =
      let is : filled_turn terms number from o.piece e o.answer ≡ refused_turn terms FileChanged SourceFault from e =
      rw (← o.whole) refl in
      let lends : Lends e (refused_turn terms FileChanged SourceFault from e) e' (Some from) (Error FileChanged) =
      record { state = s; goes = refl; bytes = refl } in search rules

  pub sent_error : (o : ReadsNext false) (e' : EndState) (step : Step) →
      e' ≡ with_position (in_phase (refused (Some terms) SourceFault e.position.phase) e) e →
      step ≡ step_of e.position.phase e'.position.phase (Some from) → IsReported e' step (Error FileChanged)
  sent_error o e' step s is = report e' (Error FileChanged) step (changed o e' s) is
