-- An end of which an ERROR to its peer was sent has closed because its store refused.
-- For the law no_end_is_blamed.
use Rattle.tftp_player.proofs.Common.{common_steps, ◌≡◌, ℕ, ◌+◌, ◌<◌, true, false, List, [], ◌∷◌, ◌++◌, length, Option}
use Rattle.tftp_player.proofs.Common.{Some, None, refl, sym, ap, ◌∙◌, subst, arith, inl, inr, rules, ◌≢◌, nat_eq}
use Rattle.tftp_player.proofs.Common.{option_map, slice_get, Contains, pointwise, true≢false, cases_Bool}
use Rattle.tftp_player.proofs.Common.{Contains-append_cases, same_Some, slice_get_within, Spells, Error, Files}
use Rattle.tftp_player.proofs.Common.{memory_source, Holding, Phase, Terms, is_client, terms_of, outcome_of}
use Rattle.tftp_player.proofs.Common.{is_wrong_peer, datagram_action, Turn, Reply, error_bytes, PhaseKept, request_port}
use Rattle.tftp_player.proofs.Common.{server_ip, two_hosts, Endpoint, At_server, Elsewhere, OpenEnd, end_after}
use Rattle.tftp_player.proofs.Common.{files_of, peer_of, slice_get-set_same, WorldState, WorldEnd, Open_end, Closed_end}
use Rattle.tftp_player.proofs.Common.{standing, datagram, replied, end_address, end_record, new_world, IsReached}
use Rattle.tftp_player.proofs.Common.{HasPeer, Refines, Datagram, PlaysAll, armed_end, Event, Report, acts_by}
use Rattle.tftp_player.proofs.Common.{UnknownTransferId, same_address, host_of, slice_get-push_new, ◌≤◌}
use Rattle.tftp_ends.specs.declared.outcome.Outcome.TheVariants as outcomes
use Rattle.tftp_player.specs.Closing.{OnlyRefusalsAreTold}
use Rattle.tftp_player.proofs.Blameless.{turn_blameless}
use Rattle.tftp_player.proofs.Changes.{Arrives, IsOpening, Reads, Writes, Serves_read, Serves_write, IsTurn, At_timeout}
use Rattle.tftp_player.proofs.Changes.{At_datagram, Changes, Stayed, Answered, Opened, Turned, Armed, changes, Came}
use Rattle.tftp_player.proofs.Changes.{Was, Began, Was_armed, Moved, came}
use Rattle.tftp_player.proofs.OacksTaken.{Known_world, known_then, waits_here, known_new}
use Rattle.tftp_player.proofs.Standing.{standing_address}
use Rattle.tftp_player.proofs.StraightActions.{peer_near}
use Rattle.tftp_player.proofs.TermsKept.{turn_terms}
use Rattle.tftp_player.proofs.SentAgain.{second}
use Rattle.tftp_player.proofs.WorldSafe.{kept_is_safe, ip_at_home}
use Rattle.tftp_player.proofs.WorldTurns.{nothing_in, one_in}
use Rattle.tftp_player.proofs.ErrorAnswers.{IsErr, datagram_tells, IsRefusal, Answers, ToldAt, turn_answers}
use Rattle.tftp_player.proofs.ErrorAnswers.{timeout_answers}

-- ---- the ends of a world, by the ERRORs that they sent
abbrev Told : WorldEnd → Endpoint → List ℕ → Type 0
Told (Open_end x) to bytes = ToldAt x.state.position to bytes
Told (Closed_end x) to bytes =
    x.recorded.peer ≡ Some to → host_of to ≢ Elsewhere →
    (x.recorded.outcome ≡ Some outcomes.StoreFault) × IsRefusal bytes

-- each ERROR that was sent, and that its sender had reason for it
pub record Spoken (w : WorldState) : Type 0 where
  pub told : (d : Datagram) → Contains w.sent d → IsErr d.bytes → (k : ℕ) (z : WorldEnd) →
      slice_get w.ends k ≡ Some z → end_address z ≡ d.from → Told z d.to d.bytes
  pub ports : (d : Datagram) → Contains w.sent d → d.from.port < 1024 + length w.ends

stands_told : (x : OpenEnd) (turn : Turn) (held : Files (List ℕ) Holding) (to : Endpoint) (bytes : List ℕ) →
    ToldAt turn.position to bytes → Told (standing (end_after x turn held)) to bytes
stands_told x turn held to bytes h = search rules

stands_side : (x : OpenEnd) (turn : Turn) (held : Files (List ℕ) Holding) →
    is_client (end_record (standing (end_after x turn held))).side ≡ is_client x.state.role.side
stands_side x turn held = search rules

stands_peer : (x : OpenEnd) (turn : Turn) (held : Files (List ℕ) Holding) →
    (end_record (standing (end_after x turn held))).peer ≡ peer_of turn.position.phase
stands_peer x turn held = search rules

replied_is : (a : Endpoint) (reply : Option Reply) (d : Datagram) → Contains (replied a reply) d →
    (r : Reply) × (reply ≡ Some r) × (d ≡ datagram a r.to r.bytes)
replied_is a reply d i = search rules

-- ---- what an event sends
-- it was sent before, by the request port, by an end as it opened, or in a turn
data Spoke (w v : WorldState) : Datagram → Type 0 where
  Before : (d : Datagram) → Contains w.sent d → Spoke w v d
  By_port : (d : Datagram) → d.from ≡ request_port → Spoke w v d
  By_opening : (x : OpenEnd) → IsOpening w x → slice_get v.ends (length w.ends) ≡ Some (Open_end x) →
      Spoke w v (datagram x.address x.state.position.last_sent_to x.state.position.last_sent)
  By_turn : (k : ℕ) (x : OpenEnd) (turn : Turn) (held : Files (List ℕ) Holding) (r : Reply) →
      slice_get w.ends k ≡ Some (Open_end x) → IsTurn w x turn held → turn.reply ≡ Some r →
      slice_get v.ends k ≡ Some (standing (end_after x turn held)) → Spoke w v (datagram x.address r.to r.bytes)

module _ (w v : WorldState) (report : Report) where
  more_sent : (said : List Datagram) (d : Datagram) → v.sent ≡ w.sent ++ said → Contains v.sent d →
      (Contains said d → Spoke w v d) → Spoke w v d
  more_sent said d is i then_on =
      elim (Contains-append_cases w.sent said d (subst (λ (ds : List Datagram). Contains ds d) is i)) [
        | inl o ↦ Before d o
        | inr n ↦ then_on n
      ]

  spoke : Changes (IsTurn w) w report v → (d : Datagram) → Contains v.sent d → Spoke w v d
  spoke (Stayed s) d i = Before d (subst (λ (u : WorldState). Contains u.sent d) s.is i)
  spoke (Answered e from reports is) d i = more_sent (e ∷ []) d (ap (λ (u : WorldState). u.sent) is) i
      (λ n. By_port d (ap (λ (c : Datagram). c.from) (sym (one_in d e n)) ∙ from))
  spoke (Opened x o s) d i =
      let first = datagram x.address x.state.position.last_sent_to x.state.position.last_sent in
      more_sent (first ∷ []) d (ap (λ (u : WorldState). u.sent) s.is) i
      (λ n. subst (Spoke w v) (one_in d first n) (By_opening x o
      (ap (λ (u : WorldState). slice_get u.ends (length w.ends)) s.is ∙ slice_get-push_new w.ends (Open_end x))))
  spoke (Turned k x turn held there h t) d i =
      more_sent (replied x.address turn.reply) d (ap (λ (u : WorldState). u.sent) t.is) i (λ n.
      let r = replied_is x.address turn.reply d n in
      subst (Spoke w v) (sym r.2) (By_turn k x turn held r.0 there h r.1
      (ap (λ (u : WorldState). slice_get u.ends k) t.is
      ∙ slice_get-set_same w.ends k (standing (end_after x turn held)) (Open_end x) there)))
  spoke (Armed k x there reports is) d i = Before d (subst (λ (u : WorldState). Contains u.sent d) is i)

  no_fewer : Changes (IsTurn w) w report v → length w.ends ≤ length v.ends
  no_fewer (Stayed s) = grind (arith, common_steps)
  no_fewer (Answered e from reports is) = grind (arith, common_steps)
  no_fewer (Opened x o s) = grind (arith, common_steps)
  no_fewer (Turned k x turn held there h t) = grind (arith, common_steps)
  no_fewer (Armed k x there reports is) = grind (arith, common_steps)

-- ---- an event
armed_told : (z : WorldEnd) (to : Endpoint) (bytes : List ℕ) → Told z to bytes → Told (armed_end z) to bytes
armed_told z to bytes h = search rules

-- so does an event that sets it to refuse
pub armed_address : (z : WorldEnd) → end_address (armed_end z) ≡ end_address z
armed_address z = search rules

-- an end that opens is at the next port, and sends no ERROR
opening_port : (w : WorldState) (x : OpenEnd) → IsOpening w x → x.address.port ≡ 1024 + length w.ends
opening_port w x o = search rules

opening_speaks : (w : WorldState) (x : OpenEnd) → IsOpening w x → IsErr x.state.position.last_sent → ⊥
opening_speaks w x (Reads name mode asked) e = let z : ◌≡◌ {A = ℕ} 1 5 = e in omega (arith, z)
opening_speaks w x (Writes name mode asked file) e = let z : ◌≡◌ {A = ℕ} 2 5 = e in omega (arith, z)
opening_speaks w x (Serves_read peer request mode path file agreed) e = search rules
opening_speaks w x (Serves_write peer request mode path agreed) e = search rules

module _ (old new : WorldState) (known : Known_world old) (ok' : Refines true new) (spoken : Spoken old) where
  abbrev ok : Refines true old
  ok = known.ok

  -- the newest datagram of an open end
  newest_told : (k : ℕ) (x : OpenEnd) → slice_get old.ends k ≡ Some (Open_end x) →
      IsErr x.state.position.last_sent →
      ToldAt x.state.position x.state.position.last_sent_to x.state.position.last_sent
  newest_told k x there err =
      spoken.told (datagram x.address x.state.position.last_sent_to x.state.position.last_sent)
      (ok.ends k (Open_end x) there).stands.last_sent err k (Open_end x) there refl

  -- one to which the sender is a stranger
  stranger_told : (k : ℕ) (x : OpenEnd) → slice_get old.ends k ≡ Some (Open_end x) → (from : Endpoint)
      (bytes said : List ℕ) → Arrives old from x.address bytes →
      is_wrong_peer (terms_of x.state.position.phase) x.state.position.last_sent_to from ≡ true →
      ToldAt x.state.position from said
  stranger_told k x there from bytes said a wrong = by (terms_of x.state.position.phase) refl where
    by : (o : Option Terms) → terms_of x.state.position.phase ≡ o → ToldAt x.state.position from said
    by (Some t) e =
        let wrong_now : is_wrong_peer (Some t) x.state.position.last_sent_to from ≡ true =
        sym (ap (λ (o : Option Terms). is_wrong_peer o x.state.position.last_sent_to from) e) ∙ wrong in
        let has : peer_of x.state.position.phase ≡ Some t.peer = ap (option_map (λ (u : Terms). u.peer)) e in (
          λ p own. absurd
              (true≢false
              (sym wrong_now ∙ peer_near t x.state.position.last_sent_to from (same_Some t.peer from (sym has ∙ p)))),
          λ none open_still. absurd (let f : Some t.peer ≡ None = sym has ∙ none in cc),
        )
    by None e =
        let has : peer_of x.state.position.phase ≡ None = ap (option_map (λ (u : Terms). u.peer)) e in (
          λ p own. absurd (let f : None ≡ Some from = sym has ∙ p in cc),
          λ none open_still here.
              let phase = waits_here old ok k x there from bytes a e in
              let kept_now =
              subst (λ (p : Phase). PhaseKept two_hosts x p) phase.2 (ok.ends k (Open_end x) there).stands.kept.phase in
              let to_ip : x.state.position.last_sent_to.ip ≡ server_ip = ap (λ (p : Endpoint). p.ip) kept_now.2 in
              let from_ip : from.ip ≡ server_ip = ip_at_home from false here in
              let same : same_address x.state.position.last_sent_to from ≡ true =
              ap (λ (ip : List ℕ). pointwise nat_eq ip from.ip) to_ip ∙ ap (pointwise nat_eq server_ip) from_ip in
              let right : is_wrong_peer (terms_of x.state.position.phase) x.state.position.last_sent_to from ≡ false =
              search rules in
              true≢false (sym wrong ∙ right),
        )

  -- what a turn answers
  answers_so : (k : ℕ) (x : OpenEnd) (turn : Turn) (held : Files (List ℕ) Holding) →
      slice_get old.ends k ≡ Some (Open_end x) → IsTurn old x turn held → Answers turn
  answers_so k x turn held there At_timeout =
      timeout_answers x.state (newest_told k x there) x.state.position.retries_left x.state.position.phase
  answers_so k x turn held there (At_datagram from bytes t files come d) =
      turn_answers from x.state (is_wrong_peer (terms_of x.state.position.phase) x.state.position.last_sent_to from)
      d.decoded (stranger_told k x there from bytes (error_bytes UnknownTransferId) come) (newest_told k x there)
      (datagram_action x.state from bytes d.decoded) t (datagram_tells x.state from bytes d.decoded) d.again
      (acts_by memory_source _ from bytes x.state (datagram_action x.state from bytes d.decoded) (files_of x) files t
      d.acts)

  -- what was told before a turn
  module _ (k : ℕ) (x : OpenEnd) (turn : Turn) (held : Files (List ℕ) Holding)
      (there : slice_get old.ends k ≡ Some (Open_end x))
      (now : slice_get new.ends k ≡ Some (standing (end_after x turn held)))
      (stays : (t : Terms) → terms_of x.state.position.phase ≡ Some t → terms_of turn.position.phase ≡ Some t) where
    abbrev before : Phase
    before = x.state.position.phase

    still : outcome_of before ≡ None
    still = (ok.ends k (Open_end x) there).stands.still

    client_if : terms_of before ≡ None → is_client x.state.role.side ≡ true
    client_if none = elim (cases_Bool (is_client x.state.role.side)) [
      | inl c ↦ c
      | inr c ↦ absurd
          (let asker = (ok.ends k (Open_end x) there).asked c in
          let f : None ≡ Some asker.0 = sym (ap (option_map (λ (t : Terms). t.peer)) none) ∙ asker.1 in cc)
    ]

    peer_at_server : terms_of before ≡ None → (to : Endpoint) → peer_of turn.position.phase ≡ Some to →
        host_of to ≡ At_server
    peer_at_server none to p =
        (kept_is_safe true new ok').at_server (standing (end_after x turn held)) to (k, now)
        (stands_side x turn held ∙ client_if none) (stands_peer x turn held ∙ p)

    told_old : (to : Endpoint) (bytes : List ℕ) → ToldAt x.state.position to bytes → ToldAt turn.position to bytes
    told_old to bytes h = search (rules, still, peer_at_server)

  -- what was told before an event
  told_before : (d : Datagram) → Contains old.sent d → IsErr d.bytes → (j : ℕ) (z : WorldEnd) →
      slice_get new.ends j ≡ Some z → end_address z ≡ d.from → Came (IsTurn old) old j z → Told z d.to d.bytes
  told_before d o err j z zi address (Was y i) = spoken.told d o err j y i address
  told_before d o err j z zi address (Began x none opening) = absurd
      (let l = spoken.ports d o in
      let a = ap (λ (p : Endpoint). p.port) address in
      let port = opening_port old x opening in omega (arith, l, a, port))
  told_before d o err j z zi address (Was_armed y i) =
      armed_told y d.to d.bytes (spoken.told d o err j y i (sym (armed_address y) ∙ address))
  told_before d o err j z zi address (Moved x turn held i h) =
      let mine = sym (standing_address (end_after x turn held)) ∙ address in
      stands_told x turn held d.to d.bytes (told_old j x turn held i zi (turn_terms old x turn held h) d.to d.bytes
      (spoken.told d o err j (Open_end x) i mine))

  -- and what is told after it
  module _ (report : Report) (change : Changes (IsTurn old) old report new) where
    told_now : (d : Datagram) → Spoke old new d → IsErr d.bytes → (j : ℕ) (z : WorldEnd) →
        slice_get new.ends j ≡ Some z → end_address z ≡ d.from → Told z d.to d.bytes
    told_now d (Before c o) err j z zi address =
        told_before d o err j z zi address (came (IsTurn old) old new report change j z zi)
    told_now d (By_port c from) err j z zi address = absurd
        (let a = ok'.ports j z zi in
        let b = ap (λ (p : Endpoint). p.port) (address ∙ from) in omega (arith, a, b))
    told_now d (By_opening x opening there) err j z zi address = absurd (opening_speaks old x opening err)
    told_now d (By_turn k x turn held r i h is there) err j z zi address =
        let same =
        (kept_is_safe true new ok').unique z (standing (end_after x turn held)) (j, zi) (k, there)
        (address ∙ sym (standing_address (end_after x turn held))) in
        rw (same) (stands_told x turn held r.to r.bytes (answers_so k x turn held i h
        (turn_blameless old ok known.plain k x i turn held h) r is err))

    ports_now : (d : Datagram) → Spoke old new d → d.from.port < 1024 + length new.ends
    ports_now d (Before c o) =
        let l = spoken.ports d o in let n = no_fewer old new report change in omega (arith, l, n)
    ports_now d (By_port c from) = let a = ap (λ (p : Endpoint). p.port) from in omega (arith, a)
    ports_now d (By_opening x opening there) =
        let a = opening_port old x opening in
        let l = slice_get_within new.ends (length old.ends) (Open_end x) there in omega (arith, a, l)
    ports_now d (By_turn k x turn held r i h is there) =
        let a = ok.ports k (Open_end x) i in
        let l = slice_get_within new.ends k (standing (end_after x turn held)) there in omega (arith, a, l)

    change_spoken : Spoken new
    change_spoken = record {
      told = λ d i. told_now d (spoke old new report change d i);
      ports = λ d i. ports_now d (spoke old new report change d i);
    }

run_spoken : (events : List Event) (w v : WorldState) → Known_world w → Spoken w → PlaysAll w events v → Spoken v
run_spoken [] w v known h r = subst Spoken (sym r) h
run_spoken (event ∷ events) w v known h r =
    let next = known_then w r.0 event r.1 known r.2 in
    run_spoken events r.0 v next (change_spoken w r.0 known next.ok h r.1 (changes w r.0 event r.1 r.2)) r.3

told_outcome : (z : WorldEnd) (to : Endpoint) (bytes : List ℕ) → Told z to bytes → (end_record z).peer ≡ Some to →
    host_of to ≢ Elsewhere → ((end_record z).outcome ≡ Some outcomes.StoreFault) × IsRefusal bytes
told_outcome (Open_end x) to bytes h p own = h.0 p own
told_outcome (Closed_end x) to bytes h p own = h p own

is_error : (code : ℕ) (text bytes : List ℕ) → Spells (Error code text) bytes → IsErr bytes
is_error code text bytes s = ap second s.whole

-- an end of which an ERROR to its peer was sent has closed because its store refused, as that says
pub refusals_are_told : (w : WorldState) (d : Datagram) (code : ℕ) (text : List ℕ) (k : ℕ) (z : WorldEnd) →
    IsReached w → Contains w.sent d → Spells (Error code text) d.bytes → slice_get w.ends k ≡ Some z →
    end_address z ≡ d.from → HasPeer z d.to → host_of d.to ≢ Elsewhere →
    ((end_record z).outcome ≡ Some outcomes.StoreFault) × IsRefusal d.bytes
refusals_are_told w d code text k z reached i spelled there address peer own =
    let h = run_spoken reached.events (new_world reached.files reached.config) w
    (known_new reached.files reached.config reached.max_block)
    (record { told = λ c q. absurd (nothing_in c q); ports = λ c q. absurd (nothing_in c q) }) reached.plays in
    told_outcome z d.to d.bytes (h.told d i (is_error code text d.bytes spelled) k z there address) peer own

-- so the ERRORs to a peer say only that a store refused
pub only_refusals_are_told : OnlyRefusalsAreTold
only_refusals_are_told w d code text k z reached i spelled there address peer own =
    (refusals_are_told w d code text k z reached i spelled there address peer own).0
