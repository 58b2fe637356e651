-- How a client closes that has no peer: at the first datagram of the server's address that it handles and that is no ERROR
-- it took no peer, and refused that. For the law a_client_ends_for_a_reason.
use Rattle.std.proofs.Common.{rules as std_rules}
use Rattle.tftp_promises.proofs.Common.{List, ℕ, ◌≡◌, rules, sym, Endpoint, refl, ◌∙◌, ap, SourceMeaning, Some, subst}
use Rattle.tftp_promises.proofs.Common.{inl, inr, ◌∷◌, SinkMeaning, None, EndState, ◌⊎◌, Files, Option, outcome_of}
use Rattle.tftp_promises.proofs.Common.{same_Some, Turn, State, timeout_turn, DatagramStep, Receives_one, Outcome}
use Rattle.tftp_promises.proofs.Common.{peer_of, Action, Act, Answers, Acts, Respond, datagram_action, TakesOwn, Has}
use Rattle.tftp_promises.proofs.Common.{Goes_on, ClientRun, Starts, Times_out, acts_in, HandlesReceived, Loses, Took}
use Rattle.tftp_promises.proofs.Common.{Elapses, Packet, Lost, Timed, response_turn, Asked, MayElapse, Stays}
use Rattle.tftp_promises.proofs.Common.{with_reply, IsSome, received, Accept, Response, Refuse, Waiting, IsOpen}
use Rattle.tftp_promises.proofs.Common.{HandlesOwn, Decodes, Close, Watch, IsOtherAnswer, Complete, Position, Wait}
use Rattle.tftp_promises.proofs.Common.{timeout_response, MayWait, IsReadBy, ClientOpens, To_read, To_write}
use Rattle.tftp_ends.specs.Phase.{waited}
use Rattle.tftp_lives.proofs.Stands.{has_more}
use Rattle.tftp_ends.specs.declared.outcome.Outcome.TheVariants as outcomes
use Rattle.tftp_promises.proofs.ClientTraces.{run_role}
use Rattle.tftp_promises.proofs.ClosedEnds.{datagram_stays, timeout_stays}
use Rattle.tftp_promises.proofs.TakesOne.{acts_peer}

-- an action closes an end without a peer, with this outcome
abbrev pub ClosesBy : Outcome → Action → Type 0
ClosesBy o (Respond (Close outcome)) = outcome ≡ o
ClosesBy o (Respond (Refuse None reply outcome)) = outcome ≡ o
ClosesBy o (Respond Complete) = o ≡ outcomes.Complete
ClosesBy o action = ⊥

-- ---- what a client asked for, and the limit of its file
module _ {G K : Type 0} {inputs : SourceMeaning G} {outputs : SinkMeaning K} {to : Endpoint} {first : EndState}
    {file : Files G K} where
  abbrev pub asked_in : ClientOpens inputs outputs to first file → Asked
  asked_in (To_read opens) = opens.asked
  asked_in (To_write opens) = opens.asked

  abbrev pub limit_in : ClientOpens inputs outputs to first file → ℕ
  limit_in (To_read opens) = opens.limit
  limit_in (To_write opens) = opens.limit

  pub waits_first : (opens : ClientOpens inputs outputs to first file) →
      first.position.phase ≡ Waiting (asked_in opens) (limit_in opens)
  waits_first opens = search std_rules

-- ---- one turn of an end that waits
-- its newest datagram is the same
abbrev IsSame : Position → Position → Type 0
IsSame one other = (one.last_sent ≡ other.last_sent) × (one.last_sent_to ≡ other.last_sent_to)

-- it has no peer still: it waits as it did, or it has closed by this action
abbrev Leads : EndState → Action → Turn → Type 0
Leads e action turn =
    peer_of turn.position.phase ≡ None → IsSame turn.position e.position × ((turn.position.phase ≡ e.position.phase)
    ⊎ ((o : Outcome) × (outcome_of turn.position.phase ≡ Some o) × ClosesBy o action))

no_peer : {P : Type 0} (peer : Endpoint) → Some peer ≡ None → P
no_peer peer e = absurd (let f : Some peer ≡ None = e in cc)

module _ (e : EndState) (asked : Asked) (limit : ℕ) (waits : e.position.phase ≡ Waiting asked limit) (from : Endpoint) where
  response_leads : (response : Response) → Leads e (Respond response) (response_turn response from e)
  response_leads Wait none = ((refl, refl), inl (ap waited waits ∙ sym waits))
  response_leads (Close outcome) none = ((refl, refl), inr (outcome, refl, refl))
  response_leads (Refuse None reply outcome) none = ((refl, refl), inr (outcome, refl, refl))
  response_leads (Refuse (Some terms) reply outcome) none = no_peer terms.peer none
  response_leads (Accept terms) none = no_peer terms.peer none
  response_leads Complete none = ((refl, refl), inr (outcomes.Complete, refl, refl))
  response_leads response none = ((refl, refl), inl refl)

  leads_as : (action : Action) (turn turn' : Turn) → turn ≡ turn' → Leads e action turn' → Leads e action turn
  leads_as action turn turn' is h = subst (Leads e action) (sym is) h

  module _ {S K : Type 0} (sources : SourceMeaning S) (sinks : SinkMeaning K) (bytes : List ℕ) where
    acts_lead : (action : Action) (files : Files S K) (turn : Turn) (files' : Files S K) →
        Acts sources sinks action from bytes e files turn files' → Leads e action turn
    acts_lead action files turn files' acts = search (std_rules, leads_as, response_leads, acts_peer)

-- ---- a run
-- an end that waited for its first answer closed with this outcome, by what it received
pub record IsRefused (ip others : List ℕ) (first : EndState) (asked : Asked) (limit : ℕ) (o : Outcome)
    (acts : List Act) : Type 0 where
  pub end : EndState
  pub role : end.role ≡ first.role
  pub waiting : end.position.phase ≡ Waiting asked limit
  pub to : end.position.last_sent_to ≡ first.position.last_sent_to
  pub from : Endpoint
  pub bytes : List ℕ
  pub handled : Has (Took from bytes) acts
  pub own : IsOtherAnswer ip others from bytes → ⊥
  pub decoded : Option Packet
  pub says : Decodes bytes decoded
  pub closes : ClosesBy o (datagram_action end from bytes decoded)

open_none : {P : Type 0} (s : State) (o : Outcome) → IsOpen s.end → outcome_of s.end.position.phase ≡ Some o → P
open_none s o still is = absurd (still (subst (λ (z : Option Outcome). IsSome z) (sym is) refl))

-- one timeout
abbrev OutOrOn : EndState → Response → Type 0
OutOrOn e response =
    IsSame (response_turn response e.position.last_sent_to e).position e.position
    × (((response_turn response e.position.last_sent_to e).position.phase ≡ e.position.phase)
    ⊎ (outcome_of (response_turn response e.position.last_sent_to e).position.phase ≡ Some outcomes.TimedOut))

timeout_leads : (e : EndState) (asked : Asked) (limit : ℕ) → e.position.phase ≡ Waiting asked limit →
    OutOrOn e (timeout_response e.position.retries_left e.position.phase)
timeout_leads e asked limit is = search rules

not_both : (o other : Outcome) → Some other ≡ Some o → o ≡ other
not_both o other e = sym (same_Some other o e)

module _ (ip others : List ℕ) (begin : State) (asked : Asked) (limit : ℕ) where
  abbrev RefusedBy : Outcome → List Act → Type 0
  RefusedBy o acts = IsRefused ip others begin.end asked limit o acts

  -- it waits as it did at first, or it has closed, for want of an answer or at one
  abbrev SoFar : Position → List Act → Type 0
  SoFar position acts =
      IsSame position begin.end.position × ((position.phase ≡ begin.end.position.phase)
      ⊎ ((o : Outcome) × (outcome_of position.phase ≡ Some o) × ((o ≡ outcomes.TimedOut) ⊎ RefusedBy o acts)))

  abbrev Without : State → List Act → Type 0
  Without s acts = peer_of s.end.position.phase ≡ None → SoFar s.end.position acts

  -- a step that changes no end
  rests : (s next : State) (acts more : List Act) → next.end ≡ s.end → ((act : Act) → Has act acts → Has act more) →
      Without s acts → Without next more
  rests s next acts more same still h none = search rules

  module _ {G K : Type 0} {inputs : SourceMeaning G} {outputs : SinkMeaning K} {port : ℕ} {file : Files G K}
      (waits : begin.end.position.phase ≡ Waiting asked limit) where
    -- ---- a datagram
    module _ {s : State} {files : Files G K} (run : ClientRun inputs outputs port begin file s files) (h : Without s (acts_in run))
        (from : Endpoint) (bytes : List ℕ) (turn : Turn) (files' : Files G K) (still : IsOpen s.end)
        (step : DatagramStep inputs outputs from bytes s.end files turn files')
        (own : peer_of s.end.position.phase ≡ None → IsOtherAnswer ip others from bytes → ⊥) where
      abbrev acts : List Act
      acts = with_reply turn.reply (Took from bytes ∷ acts_in run)

      waiting_turns : peer_of s.end.position.phase ≡ None → IsSame s.end.position begin.end.position →
          s.end.position.phase ≡ begin.end.position.phase → peer_of turn.position.phase ≡ None →
          SoFar turn.position acts
      waiting_turns none same waiting after =
          let leads =
          acts_lead _ _ _ (waiting ∙ waits) _ _ _ _ _ _ _ _ step.acts after in (
            (leads.0.0 ∙ same.0, leads.0.1 ∙ same.1),
            elim leads.1 [
              | inl on ↦ inl (on ∙ waiting)
              | inr closed ↦
                  inr (
                    closed.0,
                    closed.1,
                    inr (search (
                      run_role run,
                      waiting ∙ waits,
                      has_more (Took from bytes) (Took from bytes ∷ acts_in
                          run) turn.reply (inl refl),
                      own none,
                    )),
                  )
            ],
          )

      turns_by : (o : Option Endpoint) → peer_of s.end.position.phase ≡ o → peer_of turn.position.phase ≡ None →
          SoFar turn.position acts
      turns_by (Some peer) is after =
          no_peer peer
          (sym ((datagram_stays inputs outputs from s.end bytes step.decoded files turn files' step.acts peer
          is).peer_is
          ∙ is) ∙ after)
      turns_by None is after = search (std_rules, waiting_turns, open_none)

    -- ---- a timeout
    times : {s : State} {files : Files G K} (run : ClientRun inputs outputs port begin file s files) → IsOpen s.end → Without s (acts_in run) →
        (more : List Act) → peer_of (timeout_turn s.end).position.phase ≡ None →
        SoFar (timeout_turn s.end).position more
    times {s} run still h more none = search (rules, timeout_stays, timeout_leads, open_none)

    -- ---- along a run
    answered : {s : State} {files : Files G K} (run : ClientRun inputs outputs port begin file s files) → Without s (acts_in run) → {next : State}
        {files' : Files G K} {from : Endpoint} {bytes : List ℕ} {watch : Watch} (may : MayWait s) (later : IsReadBy s watch)
        (handles : HandlesReceived inputs outputs port from bytes (received port from bytes watch s) files next files') →
        HandlesOwn ip others handles → Without next (acts_in (Goes_on run (Receives_one may later handles)))
    answered {s} {files} run h {files' = files'} {from = from} {bytes = bytes} may later (Answers {turn} still step) own =
        λ none. turns_by run h from bytes turn files' still step own (peer_of s.end.position.phase) refl none
    answered {s} run h {from = from} {bytes = bytes} may later (Loses lost keeps) own =
        rests s s (acts_in run) (Lost from bytes ∷ acts_in run) refl (λ act has. inr has) h

    elapsed_so : {s : State} {files : Files G K} (run : ClientRun inputs outputs port begin file s files) → Without s (acts_in run) → {next : State}
        (elapses : MayElapse port s next) → Without next (acts_in (Goes_on run (Times_out elapses)))
    elapsed_so {s} run h (Stays why) = h
    elapsed_so {s} run h (Elapses due still) =
        λ none. times run still h (with_reply (timeout_turn s.end).reply (Timed ∷ acts_in run)) none

    without : {s : State} {files : Files G K} (run : ClientRun inputs outputs port begin file s files) → TakesOwn ip others run → Without s (acts_in run)
    without Starts own = λ none. ((refl, refl), inl refl)
    without (Goes_on run (Receives_one may later handles)) own =
        answered run (without run own.0) may later handles own.1
    without (Goes_on run (Times_out elapses)) own = elapsed_so run (without run own.0) elapses
    without (Goes_on {s} {s'} run does) own =
        rests s s' (acts_in run) (acts_in run) refl (λ act has. has) (without run own.0)

    -- one that has no peer and closed otherwise than for want of an answer
    pub refused_at : {s : State} {files : Files G K} (run : ClientRun inputs outputs port begin file s files) → TakesOwn ip others run →
        peer_of s.end.position.phase ≡ None → (o : Outcome) → outcome_of s.end.position.phase ≡ Some o →
        (o ≡ outcomes.TimedOut → ⊥) → RefusedBy o (acts_in run)
    refused_at {s} run own none o is other = search (rules, without, outcome_of, not_both, acts_in)

    -- its newest datagram is its request
    pub still_asks : {s : State} {files : Files G K} (run : ClientRun inputs outputs port begin file s files) → TakesOwn ip others run →
        peer_of s.end.position.phase ≡ None → (s.end.position.last_sent ≡ begin.end.position.last_sent)
        × (s.end.position.last_sent_to ≡ begin.end.position.last_sent_to)
    still_asks run own none = (without run own none).0
