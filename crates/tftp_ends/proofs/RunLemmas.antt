-- The bounds of a run of an end. For `run_bounds`.
use Rattle.tftp_ends.proofs.Common.{◌≡◌, ℕ, ◌*◌, ◌≤◌, true, false, List, [], ◌∷◌, length, ap, ◌∙◌, arith, ◌||◌}
use Rattle.tftp_ends.proofs.Common.{if◌then◌else◌, is_some, SourceMeaning, SinkMeaning, Outcome, Phase, EndState}
use Rattle.tftp_ends.proofs.Common.{is_sender, is_progress, IsOpen, Turn}
use Rattle.std.proofs.Common.{◌+◌, rules}
use Rattle.tftp_ends.specs.declared.outcome.Outcome.TheVariants as outcomes
use Rattle.tftp_ends.specs.declared.side.Side.{Side}
use Rattle.tftp_ends.specs.Run.{IsOpening, EndEvent, Datagram, Timeout, Taken, Takes, IsRun, AnswersByProgress}
use Rattle.tftp_ends.specs.Run.{end_after_run, count_if, is_timeout, is_data, is_oack, progress_count, timeout_count}
use Rattle.tftp_ends.specs.Run.{data_count, datagram_count, opened_by_data}
use Rattle.tftp_ends.specs.Step.{after_turn}
use Rattle.tftp_ends.proofs.RunMoves.{Kept, rank, waits, one_at_most, waits_at_most}
use Rattle.tftp_ends.proofs.RunSteps.{datagram_moves}

-- ---- the end after a timeout
-- a timeout of an end
pub record Waits (e : EndState) (turn : Turn) : Type 0 where
  pub kept : Kept e.role.side e.role.length turn.position.phase
  pub still : is_progress e.position.phase turn.position.phase ≡ false
  pub rises : rank e.position.phase ≤ rank turn.position.phase
  pub spent : IsOpen (after_turn e turn) →
      turn.position.retries_left + 1 + waits e.position.phase ≤ e.position.retries_left + waits turn.position.phase

-- ---- the end after one step
-- any step of an end
pub record Steps (e : EndState) (event : EndEvent) (turn : Turn) : Type 0 where
  pub kept : Kept e.role.side e.role.length turn.position.phase
  pub rises : rank e.position.phase + count_if (is_progress e.position.phase turn.position.phase)
      ≤ rank turn.position.phase
  pub sends : is_sender e.role.side ≡ true →
      count_if (is_data turn.reply || is_oack turn.reply)
      ≤ count_if (is_progress e.position.phase turn.position.phase) + count_if (is_timeout event)
  pub spent : IsOpen (after_turn e turn) →
      count_if (is_timeout event) + turn.position.retries_left + waits e.position.phase
      ≤ e.position.retries_left + e.role.retries * count_if (is_progress e.position.phase turn.position.phase)
      + waits turn.position.phase

module _ {S K : Type 0} (sources : SourceMeaning S) (sinks : SinkMeaning K) where
  step : (e : EndState) (event : EndEvent) (turn : Turn) → IsOpen e → Kept e.role.side e.role.length e.position.phase →
      Takes sources sinks e event turn → Steps e event turn
  step e (Datagram from bytes) turn o kept h =
      let m = datagram_moves sources sinks e from bytes h.0 h.1 turn o kept h.2 in
      search rules
  step e Timeout turn o kept h = search rules

  -- ---- the end after a run
  record AfterRun (e : EndState) (run : List Taken) : Type 0 where
    pub side : (end_after_run e run).role.side ≡ e.role.side
    pub kept : Kept (end_after_run e run).role.side (end_after_run e run).role.length
        (end_after_run e run).position.phase
    pub rises : rank e.position.phase + progress_count e run ≤ rank (end_after_run e run).position.phase
    pub sends : is_sender e.role.side ≡ true → data_count run ≤ progress_count e run + timeout_count run
    pub spent : IsOpen (end_after_run e run) →
        timeout_count run + (end_after_run e run).position.retries_left + waits e.position.phase
        ≤ e.position.retries_left + e.role.retries * progress_count e run
        + waits (end_after_run e run).position.phase

  open_before : (run : List Taken) (e : EndState) → IsRun sources sinks e run → IsOpen (end_after_run e run) → IsOpen e
  open_before [] e r o = o
  open_before (taken ∷ run) e r o = r.0

  spent_all : (ct T lf w l1 w1 l R cp P wf : ℕ) → T + lf + w1 ≤ l1 + R * P + wf → ct + l1 + w ≤ l + R * cp + w1 →
      ct + T + lf + w ≤ l + R * (cp + P) + wf
  spent_all ct T lf w l1 w1 l R cp P wf h g = search rules

  after_run : (run : List Taken) (e : EndState) → Kept e.role.side e.role.length e.position.phase →
      IsRun sources sinks e run → AfterRun e run
  after_run [] e kept r = search rules
  after_run (taken ∷ run) e kept r =
      let a = step e taken.event taken.turn r.0 kept r.1 in
      let b = after_run run (after_turn e taken.turn) a.kept r.2 in
      search (rules, spent_all, waits, is_progress, open_before)

  -- ---- from an opening
  record Opened (e : EndState) : Type 0 where
    pub kept : Kept e.role.side e.role.length e.position.phase
    pub fresh : waits e.position.phase ≡ 0
    pub all : e.position.retries_left ≡ e.role.retries

  opened : (e : EndState) → IsOpening e → Opened e
  opened e h1 = search rules

  rank_below : (side : Side) (length : ℕ) (p : Phase) → Kept side length p → rank p ≤ 65536
  rank_below side length p k = search rules

  -- an end makes progress 65,536 times at most
  pub progress_bound : (e : EndState) (run : List Taken) → IsOpening e → IsRun sources sinks e run →
      progress_count e run ≤ 65536
  progress_bound e run o r =
      let b = after_run run e (opened e o).kept r in
      let f = end_after_run e run in
      let top = rank_below f.role.side f.role.length f.position.phase b.kept in
      omega (arith, b.rises)

  -- an open end had no more timeouts than its retries for each step of progress
  pub timeout_bound : (e : EndState) (run : List Taken) → IsOpening e → IsRun sources sinks e run →
      IsOpen (end_after_run e run) → timeout_count run ≤ e.role.retries * (progress_count e run + 1) + 1
  timeout_bound e run o r live = search (rules, opened, after_run, waits_at_most)

  -- a sender sends a DATA for each step of progress and each timeout at most
  pub data_bound : (e : EndState) (run : List Taken) → IsOpening e → IsRun sources sinks e run →
      is_sender e.role.side ≡ true →
      count_if (opened_by_data e) + data_count run ≤ 1 + progress_count e run + timeout_count run
  data_bound e run o r s =
      let one = one_at_most (opened_by_data e) in
      let more = (after_run run e (opened e o).kept r).sends s in
      omega arith

  -- an open sender answers each datagram that is progress
  pub answers : (e : EndState) (run : List Taken) → IsOpening e → IsRun sources sinks e run →
      IsOpen (end_after_run e run) → is_sender e.role.side ≡ true →
      AnswersByProgress sources sinks (end_after_run e run)
  answers e run o r live s from bytes turn h =
      let b = after_run run e (opened e o).kept r in
      let m = datagram_moves sources sinks (end_after_run e run) from bytes h.0 h.1 turn live b.kept h.2 in
      let sender : is_sender (end_after_run e run).role.side ≡ true = ap is_sender b.side ∙ s in
      (m.oack sender, m.sends sender)

-- each step has one answer at most
pub datagrams_bound : (run : List Taken) → datagram_count run ≤ length run
datagrams_bound [] = omega arith
datagrams_bound (taken ∷ run) =
    let one = one_at_most (is_some taken.turn.reply) in let more = datagrams_bound run in omega arith
