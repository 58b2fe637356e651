-- A client that took no OACK has a peer that was opened without options.
-- For Blameless and ErrorsKnown.
use Rattle.tftp_player.proofs.Common.{true, sym, subst, rules, two_hosts, Machine, WorldState, Refines, WorldStep}
use Rattle.tftp_player.proofs.Common.{Event, Report, start, AllGrow, ◌≡◌, ℕ, false, List, Option, Some, None, refl, ap}
use Rattle.tftp_player.proofs.Common.{◌∙◌, ◌≢◌, option_map, slice_get, Contains, true≢false, Packet, Asked}
use Rattle.tftp_player.proofs.Common.{memory_source, Files, Holding, Phase, Waiting, Sending, Receiving, Dallying}
use Rattle.tftp_player.proofs.Common.{Closed, Terms, is_client, terms_of, outcome_of, Decodes, is_wrong_peer, Turn}
use Rattle.tftp_player.proofs.Common.{timeout_turn, default_terms, PhaseKept, Endpoint, At_server, Elsewhere, Party}
use Rattle.tftp_player.proofs.Common.{OpenEnd, end_after, files_of, host_server, own_of, WorldEnd, Open_end, Closed_end}
use Rattle.tftp_player.proofs.Common.{standing, datagram, same_address, host_of, IsBlockSize, Config, StoredFile}
use Rattle.tftp_player.proofs.Common.{new_world}
use Rattle.tftp_rules.proofs.RulesGrow.{legal_rest, run_grows}
use Rattle.tftp_rules.proofs.Runs.{run_then}
use Rattle.tftp_player.proofs.WorldFacts.{holds, m, matched, attests}
use Rattle.tftp_player.proofs.WorldRuns.{steps_are_rules, new_ok}
use Rattle.std.specs.Cmp.Lexicographic.{same_text}
use Rattle.tftp_rules.proofs.ActionCases.{IsPlainAnswer}
use Rattle.tftp_rules.proofs.PlainPeers.{HasPlainPeer, plain_answer as answers_plainly}
use Rattle.tftp_rules.proofs.Steps.{own_server}
use Rattle.tftp_rules.proofs.TermsTaken.{step_are, timeout_are}
use Rattle.tftp_player.proofs.Changes.{Arrives, IsOpening, IsTurn, At_timeout, At_datagram, Came, Was, Began, Was_armed}
use Rattle.tftp_player.proofs.Changes.{Moved, event_came, armed_has}

-- ---- an event is more rules, by which the ends of the machine go on
-- the world refines the rules, and each of its ends has gone on
pub record Grown (w v : WorldState) (ok : Refines true w) : Type 0 where
  pub now : Refines true v
  pub grows : AllGrow (Machine.party (m w ok)) (Machine.party (m v now))

-- a step of a world only adds to what was sent, and changes ends as a step of each may
pub grown : (w v : WorldState) (event : Event) (report : Report) (ok : Refines true w) → WorldStep w event report v →
    Grown w v ok
grown w v event report ok s =
    let next = steps_are_rules true w v event report tt ok s in
    let first = ok.shown.0 in
    let more = next.shown.0 in
    let now : Refines true v = search rules in
    record {
      now = now;
      grows =
          subst (λ (u : Machine). AllGrow (Machine.party (m w ok)) u.party) (sym (run_then two_hosts first more start))
          (run_grows two_hosts more (m w ok) (holds w ok) (legal_rest two_hosts first more start next.shown.2.0));
    }

-- ---- the clients of a world
-- a client that took no OACK has such a peer, if the end is open
abbrev pub PlainEnd : (Endpoint → Party) → WorldEnd → Type 0
PlainEnd ends (Open_end x) =
    is_client x.state.role.side ≡ true → (t : Terms) → terms_of x.state.position.phase ≡ Some t → HasPlainPeer ends t
PlainEnd ends (Closed_end x) = Unit {0}

-- of all clients of a world
abbrev pub ArePlain : (w : WorldState) → Refines true w → Type 0
ArePlain w ok = (k : ℕ) (z : WorldEnd) → slice_get w.ends k ≡ Some z → PlainEnd (Machine.party (m w ok)) z

plain_grows : (ends new : Endpoint → Party) → AllGrow ends new → (z : WorldEnd) → PlainEnd ends z → PlainEnd new z
plain_grows ends new all z h = search rules

stands_plain : (ends : Endpoint → Party) (x : OpenEnd) (turn : Turn) (held : Files (List ℕ) Holding) →
    (is_client x.state.role.side ≡ true → (t : Terms) → terms_of turn.position.phase ≡ Some t → HasPlainPeer ends t) →
    PlainEnd ends (standing (end_after x turn held))
stands_plain ends x turn held h = search rules

-- a client that opens has no peer yet
no_terms : (w : WorldState) (x : OpenEnd) → IsOpening w x → is_client x.state.role.side ≡ true →
    terms_of x.state.position.phase ≡ None
no_terms w x o c = search rules

module _ (w : WorldState) (ok : Refines true w) where
  abbrev ends_now : Endpoint → Party
  ends_now = Machine.party (m w ok)

  -- a client that waits, with an answer from the server that is no OACK
  module _ (k : ℕ) (x : OpenEnd) (there : slice_get w.ends k ≡ Some (Open_end x)) (from : Endpoint) (bytes : List ℕ)
      (arrives : Arrives w from x.address bytes) where
    abbrev now : Phase
    now = x.state.position.phase

    -- an open end without terms waits
    pub waits_here : terms_of now ≡ None → (asked : Asked) × (limit : ℕ) × (now ≡ Waiting asked limit)
    waits_here none = by now refl where
      by : (p : Phase) → now ≡ p → (asked : Asked) × (limit : ℕ) × (now ≡ Waiting asked limit)
      by (Waiting asked limit) e = (asked, limit, e)
      by (Sending terms n) e = absurd (let f : Some terms ≡ None = sym (ap terms_of e) ∙ none in cc)
      by (Receiving terms n) e = absurd (let f : Some terms ≡ None = sym (ap terms_of e) ∙ none in cc)
      by (Dallying terms n dally) e = absurd (let f : Some terms ≡ None = sym (ap terms_of e) ∙ none in cc)
      by (Closed terms n complete outcome) e =
          absurd (let f : Some outcome ≡ None = sym (ap outcome_of e) ∙ (ok.ends k (Open_end x) there).stands.still in
          cc)

    -- what it takes is from the server
    pub at_the_server : is_wrong_peer (terms_of now) x.state.position.last_sent_to from ≡ false → terms_of now ≡ None →
        host_of from ≡ At_server
    at_the_server right none =
        let phase = waits_here none in
        let kept_now =
        subst (λ (p : Phase). PhaseKept two_hosts x p) phase.2 (ok.ends k (Open_end x) there).stands.kept.phase in
        let near : same_address x.state.position.last_sent_to from ≡ true = search rules in
        host_server from (sym (same_text x.state.position.last_sent_to.ip from.ip (sym near)) ∙ ap (λ (p : Endpoint).
        p.ip) kept_now.2)

    -- its sender was opened without options
    pub plain_answer : (decoded : Option Packet) → Decodes bytes decoded →
        is_wrong_peer (terms_of now) x.state.position.last_sent_to from ≡ false → terms_of now ≡ None →
        IsPlainAnswer decoded → HasPlainPeer ends_now (default_terms from)
    plain_answer decoded says right none plain b =
        let here = at_the_server right none in
        let own : host_of from ≢ Elsewhere = own_server two_hosts from here in
        let sent : Contains w.sent (datagram from x.address bytes) = search rules in
        let at_x = matched w ok k (Open_end x) there in
        let own_x = own_of two_hosts (m w ok) (holds w ok) x.address at_x.is_open in
        let nobody : (ends_now x.address).peer ≡ None = at_x.peer ∙ ap (option_map (λ (t : Terms). t.peer)) none in
        by decoded says plain own_x nobody own here sent where
          by : (d : Option Packet) → Decodes bytes d → IsPlainAnswer d → host_of x.address ≢ Elsewhere →
              (ends_now x.address).peer ≡ None → host_of from ≢ Elsewhere → host_of from ≡ At_server →
              Contains w.sent (datagram from x.address bytes) →
              ((ends_now from).is_open ≡ true) × ((ends_now from).plain ≡ true)
          by None says plain own_x nobody own here sent = absurd plain
          by (Some p) says plain own_x nobody own here sent =
              answers_plainly two_hosts (m w ok) (holds w ok) x.address from own_x nobody here p
              (attests w ok from x.address bytes p own sent says) plain

  -- a turn of a client leaves it such a peer
  turn_plain : ArePlain w ok → (j : ℕ) (x : OpenEnd) (turn : Turn) (held : Files (List ℕ) Holding) →
      slice_get w.ends j ≡ Some (Open_end x) → IsTurn w x turn held →
      PlainEnd ends_now (standing (end_after x turn held))
  turn_plain h j x turn held i At_timeout =
      stands_plain ends_now x (timeout_turn x.state) (files_of x)
      (λ c. timeout_are (HasPlainPeer ends_now) x.state (h j (Open_end x) i c))
  turn_plain h j x turn held i (At_datagram from bytes t files a d) =
      stands_plain ends_now x t files
      (λ c. step_are (HasPlainPeer ends_now) memory_source _ from bytes x.state (files_of x) files t
      (h j (Open_end x) i c) (λ ks b. absurd (true≢false b)) (plain_answer j x i from bytes a) d)

  came_plain : ArePlain w ok → (j : ℕ) (z : WorldEnd) → Came (IsTurn w) w j z → PlainEnd ends_now z
  came_plain h j z (Was y i) = h j y i
  came_plain h j z (Began x none o) = λ c t e. absurd (let f : None ≡ Some t = sym (no_terms w x o c) ∙ e in cc)
  came_plain h j z (Was_armed y i) = armed_has (PlainEnd ends_now) (λ x n. n) y (h j y i)
  came_plain h j z (Moved x turn held i t) = turn_plain h j x turn held i t

-- ---- a world with what is known of its clients
-- a world whose ends were opened as their first datagrams say
pub record Known_world (w : WorldState) : Type 0 where
  pub ok : Refines true w
  pub plain : ArePlain w ok

-- so it is of a world in which nothing has happened
pub known_new : (files : List StoredFile) (config : Config) → IsBlockSize config.limits.max_block →
    Known_world (new_world files config)
known_new files config max = record {
  ok = new_ok true files config max;
  plain = λ k z i. absurd (let f : None ≡ Some z = i in cc);
}

-- each event keeps it
pub known_then : (w v : WorldState) (event : Event) (report : Report) → Known_world w → WorldStep w event report v →
    Known_world v
known_then w v event report known s =
    let g = grown w v event report known.ok s in
    record {
      ok = g.now;
      plain = λ k z i.
          plain_grows (Machine.party (m w known.ok)) (Machine.party (m v g.now)) g.grows z
          (came_plain w known.ok known.plain k z (event_came w v event report s k z i));
    }
