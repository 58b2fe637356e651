-- An end sends its newest datagram again, or acknowledges again.
-- For the laws on recovery, and for what ERRORs say (ErrorAnswers).
use Rattle.tftp_player.proofs.Common.{common_steps, ◌≡◌, ℕ, ◌+◌, ◌-◌, ◌<◌, ◌≤◌, true, List, [], ◌∷◌, ◌++◌, length}
use Rattle.tftp_player.proofs.Common.{Option, Some, None, sym, ap, ◌∙◌, subst, arith, rules, ◌≢◌, slice_get, slice_set}
use Rattle.tftp_player.proofs.Common.{same_Some, MAX_BLOCK, RawOption, Packet, Oack, Spells, canonical, Respond}
use Rattle.tftp_player.proofs.Common.{ResendReply, Retransmit, Phase, Waiting, Sending, Receiving, Dallying, Closed}
use Rattle.tftp_player.proofs.Common.{outcome_of, datagram_action, timeout_response, Turn, AcksAgain, Reply}
use Rattle.tftp_player.proofs.Common.{response_turn, ack_bytes, data_bytes, timeout_turn, Endpoint, OpenEnd, files_of}
use Rattle.tftp_player.proofs.Common.{WorldState, Open_end, datagram, Refines, WorldStep, Turns, Timeout, Report}
use Rattle.tftp_player.proofs.Common.{slice_get-push_new, Datagram, Event, is_sender, Response, Outcome, end_after}
use Rattle.tftp_player.proofs.Common.{by_outcome, with_position, in_state, replied, standing}
use Rattle.tftp_ends.specs.End.{number_of}
use Rattle.tftp_ends.specs.Step.{IsAck}
use Rattle.tftp_rules.specs.OpenEnds.{with_files}
use Rattle.tftp_player.proofs.StraightSteps.{Handles, acts_as, decoded_as, sent_by, ends_by, same_with}
use Rattle.tftp_player.proofs.StraightRuns.{IsReady}
use Rattle.tftp_player.proofs.WorldRuns.{step_keeps}

-- ---- what bytes say
-- the second byte
abbrev pub second : List ℕ → ℕ
second [] = 0
second (a ∷ []) = 0
second (a ∷ b ∷ rest) = b

-- the bytes of an OACK spell an OACK alone
pub oack_alone : (options : List RawOption) (p : Packet) → Spells p (canonical (Oack options)) →
    (others : List RawOption) × (p ≡ Oack others)
oack_alone options p s = search rules

-- the data of bytes that are those of DATA is short enough
pub data_short : (n : ℕ) (piece : List ℕ) (p : Packet) → Spells p (data_bytes n piece) → length piece ≤ MAX_BLOCK
data_short n piece p s = search rules

-- ---- a receiver acknowledges again
-- the end has acknowledged again, and is as it was
pub record Again (w v : WorldState) (k : ℕ) (x : OpenEnd) (from : Endpoint) (n : ℕ) : Type 0 where
  pub sent : v.sent ≡ w.sent ++ datagram x.address from (ack_bytes n) ∷ []
  pub ends : v.ends ≡ slice_set w.ends k (Open_end x)

-- a reply that is an ACK has the bytes of one
pub acked_bytes : (n : ℕ) (reply : Option Reply) (to : Endpoint) (bytes : List ℕ) →
    reply ≡ Some (record { to = to; bytes = bytes }) → IsAck n reply → bytes ≡ ack_bytes n
acked_bytes n reply to bytes e a = search rules

-- an open end whose turn left it with its files stands as it was
stands_still : (x : OpenEnd) → outcome_of x.state.position.phase ≡ None →
    standing (with_files x (files_of x)) ≡ Open_end x
stands_still x still =
    ap standing (same_with (is_sender x.state.role.side) x) ∙ ap (λ (o : Option Outcome). by_outcome o x) still

-- it does so on a datagram whose action is to send its reply again
pub handles_again : (w v : WorldState) (k : ℕ) (x : OpenEnd) (from : Endpoint) (bytes : List ℕ) (report : Report) (n : ℕ)
    (packet : Packet) → Handles w k x from bytes report v → Spells packet bytes →
    datagram_action x.state from bytes (Some packet) ≡ Respond ResendReply →
    outcome_of x.state.position.phase ≡ None → number_of x.state.position.phase ≡ n → Again w v k x from n
handles_again w v k x from bytes report n packet h spelled is still number =
    let turn = response_turn ResendReply from x.state in
    let a = acts_as h packet (Respond ResendReply) spelled is in
    let g = subst (AcksAgain x.state h.turn) (decoded_as h packet (Respond ResendReply) spelled is) h.steps.again in
    let acked : x.state.position.last_sent ≡ ack_bytes n =
    acked_bytes (number_of x.state.position.phase) h.turn.reply from x.state.position.last_sent (ap (λ (t : Turn).
    t.reply) a.0) g ∙ ap ack_bytes number in
    record {
      sent = sent_by h turn a.0 ∙ ap (λ (b : List ℕ). w.sent ++ datagram x.address from b ∷ []) acked;
      ends = ends_by h turn (files_of x) a.0 a.1 ∙ ap (slice_set w.ends k) (stands_still x still);
    }

-- ---- an end sends again
-- the end with one retry less
abbrev pub retried : OpenEnd → OpenEnd
retried x =
    in_state (with_position (record x.state.position { retries_left = x.state.position.retries_left - 1 }) x.state) x

-- the end has sent its newest datagram again
pub record Resent (w v : WorldState) (k : ℕ) (x : OpenEnd) : Type 0 where
  pub sent : v.sent ≡ w.sent ++ datagram x.address x.state.position.last_sent_to x.state.position.last_sent ∷ []
  pub ends : v.ends ≡ slice_set w.ends k (Open_end (retried x))

-- it does so at a timeout whose response is to send again
pub resends : (w v : WorldState) (k : ℕ) (x : OpenEnd) (report : Report) →
    timeout_response x.state.position.retries_left x.state.position.phase ≡ Retransmit →
    outcome_of x.state.position.phase ≡ None → Turns w k x (timeout_turn x.state) (files_of x) report v →
    Resent w v k x
resends w v k x report is still t =
    let turn_is = ap (λ (r : Response). response_turn r x.state.position.last_sent_to x.state) is in
    record {
      sent =
          ap (λ (u : WorldState). u.sent) t.is ∙ ap (λ (t : Turn). w.sent ++ replied x.address t.reply) turn_is;
      ends =
          ap (λ (u : WorldState). u.ends) t.is
          ∙ (ap (λ (t : Turn). slice_set w.ends k (standing (end_after x t (files_of x)))) turn_is
          ∙ ap (slice_set w.ends k) (stands_still (retried x) still));
    }

-- the timeout of the end at an index is its step
pub timed_out : (w v : WorldState) (k : ℕ) (x : OpenEnd) (report : Report) → Refines true w →
    slice_get w.ends k ≡ Some (Open_end x) → WorldStep w (Timeout x.address.port) report v →
    Turns w k x (timeout_turn x.state) (files_of x) report v
timed_out w v k x report ok there s =
    let p = ok.ports k (Open_end x) there in
    let q = s.2.is in
    let same : s.0 ≡ k = omega (arith, p, q) in
    let end_is : s.1 ≡ Open_end x = same_Some s.1 (Open_end x) (sym s.2.there ∙ (ap (slice_get w.ends) same ∙ there)) in
    search rules

-- an end in this phase gives up only once no retry is left
abbrev pub MaySendAgain : Phase → Type 0
MaySendAgain (Waiting asked limit) = Unit {0}
MaySendAgain (Sending terms n) = Unit {0}
MaySendAgain (Receiving terms n) = Unit {0}
MaySendAgain (Dallying terms n dally) = ⊥
MaySendAgain (Closed terms n complete outcome) = ⊥

-- with a retry left it sends again at a timeout
pub retransmits : (left : ℕ) (phase : Phase) → MaySendAgain phase → 0 < left → timeout_response left phase ≡ Retransmit
retransmits left phase may some = search rules

-- a datagram that an event added is the only one to be delivered
pub ready_with : (w v : WorldState) (event : Event) (report : Report) (d : Datagram) → Refines true w →
    WorldStep w event report v → v.sent ≡ w.sent ++ d ∷ [] → IsReady v (length w.sent) d
ready_with w v event report d ok s sent = grind (arith, common_steps, step_keeps, slice_get-push_new)

-- a number that is one more at most, no less and another is the next one
pub next_of : (n k : ℕ) → n ≤ k + 1 → k ≤ n → n ≢ k → n ≡ k + 1
next_of n k a b d = search rules
