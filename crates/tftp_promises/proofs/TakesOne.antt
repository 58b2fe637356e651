-- A client takes the answers of one port only: at the first datagram of the server's address that it handles and that is
-- no ERROR it has a peer, or closes.
use Rattle.std.proofs.Common.{rules as std_rules}
use Rattle.tftp_promises.proofs.Common.{List, ℕ, ◌≡◌, rules, sym, Endpoint, refl, ◌∙◌, ap, SourceMeaning, Some, subst}
use Rattle.tftp_promises.proofs.Common.{inl, inr, SinkMeaning, None, Bool, EndState, ◌⊎◌, Contains, Files, Option}
use Rattle.tftp_promises.proofs.Common.{true≢false, ◌≢◌, length, outcome_of, if◌then◌else◌, Turn, State, Mode}
use Rattle.tftp_promises.proofs.Common.{WirePacket, ◌==◌, cases_Bool, after_turn, DatagramStep, Receives_one}
use Rattle.tftp_promises.proofs.Common.{ClientDoes, peer_of, Action, Answers, Acts, Respond, datagram_action, TakesOwn}
use Rattle.tftp_promises.proofs.Common.{Known, Goes_on, ClientRun, Starts, Times_out, Terms, HandlesReceived, Loses}
use Rattle.tftp_promises.proofs.Common.{◌&&◌, Error, has_error_opcode, Result, ClientProgram, Elapses, Store, Phase}
use Rattle.tftp_promises.proofs.Common.{eqb-true, nat_lt, response_turn, Asked, IsError, terms_of, MayElapse, Stays}
use Rattle.tftp_promises.proofs.Common.{Refusal, if_acts, IsSome, writer_action, DoesOwn, received, Accept, WrongPeer}
use Rattle.tftp_promises.proofs.Common.{packet_action, Ignore, is_wrong_peer, garbled_response, is_none, Response}
use Rattle.tftp_promises.proofs.Common.{Refuse, Waiting, IsOpen, StoreFault, accept_action, reader_action}
use Rattle.tftp_promises.proofs.Common.{begin_with_action, Done, committed_turn, Decodes, Close, next_action}
use Rattle.tftp_promises.proofs.Common.{illegal_action, is_readable, Watch, IsOtherAnswer, begin_action}
use Rattle.tftp_promises.proofs.Common.{MayWait, holding, IsReadBy, same_ip, GoesOn}
use Rattle.std.specs.Cmp.Lexicographic.{same_text}
use Rattle.tftp_ends.specs.Action.{waiting_action}
use Rattle.tftp_ends.specs.Waiting.{refusal_action}
use Rattle.tftp_rules.specs.Machine.{is_same_ip}
use Rattle.tftp_rules.proofs.PhaseMoves.{both_true}
use Rattle.tftp_promises.specs.Others.{ClientsTakeOne}
use Rattle.tftp_promises.proofs.ClientTraces.{asks_there}
use Rattle.tftp_promises.proofs.ClosedEnds.{datagram_stays, timeout_stays}
use Rattle.tftp_ends.specs.declared.error_reply.ErrorReply.TheVariants as replies
use Rattle.tftp_ends.specs.declared.outcome.Outcome.TheVariants as outcomes

-- ---- an end that has a peer once it is open
abbrev Settled : EndState → Type 0
Settled e = IsOpen e → peer_of e.position.phase ≢ None

-- the actions after which an end is one
abbrev SettlesBy : Response → Type 0
SettlesBy (Close outcome) = Unit {0}
SettlesBy (Refuse terms reply outcome) = Unit {0}
SettlesBy (Accept terms) = Unit {0}
SettlesBy response = ⊥

abbrev Settles : Action → Type 0
Settles (Respond response) = SettlesBy response
Settles action = Unit {0}

-- ---- how a waiting client handles an answer
begin_settles : (long : ℕ) (terms : Terms) → Settles (begin_action long terms)
begin_settles long terms = search (rules, if_acts)

refusal_settles : (refusal : Refusal) → Settles (refusal_action refusal)
refusal_settles refusal = search rules

accept_settles : (from : Endpoint) (result : Result (List Known) Refusal) → Settles (accept_action from result)
accept_settles from result = search (rules, refusal_settles)

begin_with_settles : (from : Endpoint) (long : ℕ) (result : Result (List Known) Refusal) →
    Settles (begin_with_action from long result)
begin_with_settles from long result = search (rules, begin_settles, refusal_settles)

next_settles : (mode : Mode) (held : List ℕ) (terms : Terms) (number : ℕ) (bytes : List ℕ) →
    Settles (next_action mode held terms number bytes)
next_settles mode held terms number bytes =
    if_acts Settles (nat_lt terms.size (length bytes)) (illegal_action terms) _ (λ b. tt)
    (λ f. if_acts Settles (number == 65535 && (length bytes == terms.size))
    (Respond (Refuse (Some terms) replies.FileTooLarge outcomes.TooLarge)) _ (λ b. tt)
    (λ g. if_acts Settles (is_readable mode held bytes (nat_lt (length bytes) terms.size)) (Store terms number)
    (Respond (Refuse (Some terms) replies.NotNetascii outcomes.NotNetascii)) (λ b. tt) (λ b. tt)))

-- no ERROR
abbrev IsNoError : Option WirePacket → Type 0
IsNoError (Some (Error code text)) = ⊥
IsNoError decoded = Unit {0}

reader_settles : (mode : Mode) (asked : Asked) (limit : ℕ) (from : Endpoint) (decoded : Option WirePacket) →
    IsNoError decoded → Settles (reader_action mode asked limit from decoded)
reader_settles mode asked limit from decoded answer =
    search (rules, if_acts, next_settles, both_true, eqb-true, accept_settles)

writer_settles : (mode : Mode) (asked : Asked) (limit long : ℕ) (from : Endpoint) (decoded : Option WirePacket) →
    IsNoError decoded → Settles (writer_action mode asked limit long from decoded)
writer_settles mode asked limit long from decoded answer = search (rules, if_acts, begin_settles, begin_with_settles)

waiting_settles : (e : EndState) (from : Endpoint) (asked : Asked) (limit : ℕ) (decoded : Option WirePacket) →
    IsNoError decoded → Settles (waiting_action e from decoded (Waiting asked limit))
waiting_settles e from asked limit decoded answer = search (rules, if_acts, writer_settles, reader_settles)

-- the action for a datagram of the server's address, if the end has no peer and is open
abbrev action_in : EndState → Endpoint → List ℕ → Option WirePacket → Phase → Action
action_in e from bytes decoded phase =
    if is_wrong_peer (terms_of phase) e.position.last_sent_to from
    then (if has_error_opcode bytes then Respond Ignore else Respond WrongPeer)
    else if has_error_opcode bytes && is_none decoded then Respond (garbled_response phase)
    else packet_action e from decoded phase

action_settles : (e : EndState) (from : Endpoint) (bytes : List ℕ) (decoded : Option WirePacket) → IsNoError decoded →
    from.ip ≡ e.position.last_sent_to.ip → (phase : Phase) → (IsSome (outcome_of phase) → ⊥) → peer_of phase ≡ None →
    Settles (action_in e from bytes decoded phase)
action_settles e from bytes decoded answer near phase still none =
    search (rules, if_acts, waiting_settles, same_ip, true≢false)

-- ---- the turns
-- the action gives what a file has, or stores in it
abbrev pub MovesFile : Action → Type 0
MovesFile (Respond response) = ⊥
MovesFile action = Unit {0}

some_peer : (peer : Endpoint) → Some peer ≢ None
some_peer peer e = cc

module _ {S K : Type 0} (sources : SourceMeaning S) (sinks : SinkMeaning K) (from : Endpoint) (e : EndState) where
  abbrev SettledBy : Turn → Type 0
  SettledBy turn = Settled (after_turn e turn)

  response_settles : (response : Response) → SettlesBy response → SettledBy (response_turn response from e)
  response_settles response k = search (rules, some_peer)

  -- one that sends or stores has a peer after it
  abbrev HasPeer : Turn → Type 0
  HasPeer turn = peer_of turn.position.phase ≢ None

  committed_peer : (terms : Terms) (number : ℕ) (after : List ℕ) (answer : Result Done StoreFault) →
      HasPeer (committed_turn terms number from (holding after e) answer)
  committed_peer terms number after answer = search (rules, some_peer)

  goes_peer : (terms : Terms) (number : ℕ) (last : Bool) (after : List ℕ) (sink : K) (answer : Result Done StoreFault)
      (turn : Turn) (sink' : K) → GoesOn sinks terms number from e last after sink answer turn sink' → HasPeer turn
  goes_peer terms number last after sink answer turn sink' h = search (rules, some_peer, committed_peer)

  pub acts_peer : (action : Action) (bytes : List ℕ) (files : Files S K) (turn : Turn) (files' : Files S K) →
      Acts sources sinks action from bytes e files turn files' → MovesFile action → HasPeer turn
  acts_peer action bytes files turn files' acts k = search (rules, some_peer, if_acts, goes_peer)

  acts_settle : (action : Action) (bytes : List ℕ) (files : Files S K) (turn : Turn) (files' : Files S K) →
      Acts sources sinks action from bytes e files turn files' → Settles action → SettledBy turn
  acts_settle action bytes files turn files' acts k = search (rules, response_settles, acts_peer)

  -- the end has settled, or its last datagram went where it went before
  abbrev Lands : Turn → Type 0
  Lands turn = SettledBy turn ⊎ (turn.position.last_sent_to ≡ e.position.last_sent_to)

  response_lands : (response : Response) → Lands (response_turn response from e)
  response_lands (Accept terms) = inl (response_settles (Accept terms) tt)
  response_lands response = inr refl

  acts_land : (action : Action) (bytes : List ℕ) (files : Files S K) (turn : Turn) (files' : Files S K) →
      Acts sources sinks action from bytes e files turn files' → Lands turn
  acts_land action bytes files turn files' acts = search (rules, response_lands, acts_settle)

-- ---- an end whose last datagram went to the server while it has no peer
abbrev Asks : Endpoint → EndState → Type 0
Asks to e = IsOpen e → peer_of e.position.phase ≡ None → e.position.last_sent_to ≡ to

-- an ERROR, or none
error_or_not : (bytes : List ℕ) (decoded : Option WirePacket) → Decodes bytes decoded →
    IsNoError decoded ⊎ IsError bytes
error_or_not bytes decoded says = search rules

module _ {G K : Type 0} {inputs : SourceMeaning G} {outputs : SinkMeaning K} (to : Endpoint) where
  module _ (from : Endpoint) (bytes : List ℕ) (e : EndState) (files : Files G K) (turn : Turn) (files' : Files G K)
      (still : IsOpen e) (step : DatagramStep inputs outputs from bytes e files turn files') where
    -- the peer stays
    peer_stays : (peer : Endpoint) → peer_of e.position.phase ≡ Some peer → peer_of turn.position.phase ≡ Some peer
    peer_stays peer is =
        (datagram_stays inputs outputs from e bytes step.decoded files turn files' step.acts peer is).peer_is ∙ is

    settled_by : (o : Option Endpoint) → peer_of e.position.phase ≡ o → Settled e → Settled (after_turn e turn)
    settled_by o is settled = search (rules, some_peer, peer_stays)

    asks_by : (o : Option Endpoint) → peer_of e.position.phase ≡ o → Asks to e → Asks to (after_turn e turn)
    asks_by o is asks = search (rules, some_peer, peer_stays, acts_land)

    -- it is no answer of another server, or one of this port, and then the end has settled
    abbrev No : List ℕ → Type 0
    No others = peer_of e.position.phase ≡ None → IsOtherAnswer to.ip others from bytes → ⊥

    abbrev Decided : Type 0
    Decided =
        ((others : List ℕ) → No others)
        ⊎ (((others : List ℕ) → (Contains others from.port → ⊥) → No others) × Settled (after_turn e turn))

    by_packet : (none : peer_of e.position.phase ≡ None) (near : from.ip ≡ to.ip) → Asks to e →
        (decoded : Option WirePacket) → Decodes bytes decoded →
        Acts inputs outputs (datagram_action e from bytes decoded) from bytes e files turn files' → Decided
    by_packet none near asks decoded says acts = elim (error_or_not _ _ says) [
      | inr error ↦ inl (λ others no_peer h. h.no_error error)
      | inl answer ↦
          let same : from.ip ≡ e.position.last_sent_to.ip =
          near ∙ ap (λ (a : Endpoint). a.ip) (sym (asks still none)) in
          inr (
            λ others own no_peer h. own h.other,
            acts_settle _ _ _ e _ _ _ _ _ acts (action_settles e _ bytes _ answer same _ still none),
          )
    ]

    decides : Asks to e → (o : Option Endpoint) → peer_of e.position.phase ≡ o → Decided
    decides asks (Some peer) is = inl (λ others no_peer h. some_peer peer (sym is ∙ no_peer))
    decides asks None is = elim (cases_Bool (is_same_ip from.ip to.ip)) [
      | inl same ↦ by_packet is (same_text from.ip to.ip (sym same)) asks step.decoded step.says step.acts
      | inr far ↦
          inl (λ others no_peer h. true≢false (sym (ap (λ ip. is_same_ip ip to.ip) h.near ∙ same_ip to.ip) ∙ far))
    ]

  -- ---- a run
  pub record Takes {port : ℕ} {first : State} {file : Files G K} {s : State} {files : Files G K}
      (run : ClientRun inputs outputs port first file s files) : Type 0 where
    pub asks : Asks to s.end
    pub taken : ((others : List ℕ) → TakesOwn to.ip others run)
        ⊎ ((q : ℕ) × ((others : List ℕ) → (Contains others q → ⊥) → TakesOwn to.ip others run) × Settled s.end)

  -- a step that changes no end
  rests : {port : ℕ} {first : State} {file : Files G K} {s s' : State} {files files' : Files G K}
      (run : ClientRun inputs outputs port first file s files)
      (does : ClientDoes inputs outputs port s files s' files') → s'.end ≡ s.end → ((others : List ℕ) → DoesOwn to.ip others does) → Takes run → Takes (Goes_on run does)
  rests run does same own h = record {
    asks = subst (Asks to) (sym same) h.asks;
    taken = search std_rules;
  }

  answered : {port : ℕ} {first : State} {file : Files G K} {s : State} {files : Files G K}
      (run : ClientRun inputs outputs port first file s files) {next : State} {files' : Files G K} {from : Endpoint}
      {bytes : List ℕ} {watch : Watch} (may : MayWait s) (later : IsReadBy s watch)
      (handles : HandlesReceived inputs outputs port from bytes (received port from bytes watch s) files next files') →
      Takes run → Takes (Goes_on run (Receives_one may later handles))
  answered run may later (Loses lost keeps) h = rests _ _ refl (λ others. tt) h
  answered {s = s} {files = files} run {files' = files'} {from = from} {bytes = bytes} may later (Answers {turn = turn}
      still step) h = record {
        asks = asks_by _ _ _ _ _ _ still step _ refl h.asks;
        taken = elim h.taken [
          | inl all ↦ elim (decides _ _ _ _ _ _ still step h.asks _ refl) [
            | inl none ↦ inl (λ others. (all others, none others))
            | inr one ↦ inr (from.port, λ others n. (all others, one.0 others n), one.1)
          ]
          | inr one ↦ inr (
            one.0,
            λ others n. (one.1 others n, λ no_peer other. one.2 still no_peer),
            settled_by _ _ _ _ _ _ still step _ refl one.2,
          )
        ];
      }

  elapsed_so : {port : ℕ} {first : State} {file : Files G K} {s : State} {files : Files G K}
      (run : ClientRun inputs outputs port first file s files) {next : State} (elapses : MayElapse port s next) →
      Takes run → Takes (Goes_on run (Times_out elapses))
  elapsed_so run (Stays why) h = rests _ _ refl (λ others. tt) h
  elapsed_so {s = s} run (Elapses due still) h =
      let stays = timeout_stays s.end in
      record {
        asks = search std_rules;
        taken = search std_rules;
      }

  takes : {port : ℕ} {first : State} {file : Files G K} {s : State} {files : Files G K}
      (run : ClientRun inputs outputs port first file s files) → Asks to first.end → Takes run
  takes Starts asks = record { asks = asks; taken = inl (λ others. tt) }
  takes (Goes_on run (Receives_one may later handles)) asks = answered run may later handles (takes run asks)
  takes (Goes_on run (Times_out elapses)) asks = elapsed_so run elapses (takes run asks)
  takes (Goes_on run does) asks = rests run does refl (λ others. tt) (takes run asks)

pub takes_none_or_one : {G K : Type 0} (inputs : SourceMeaning G) (outputs : SinkMeaning K) (to : Endpoint)
    (client : ClientProgram inputs outputs to) → ((others : List ℕ) → TakesOwn to.ip others client.runs)
    ⊎ ((port : ℕ) × ((others : List ℕ) → (Contains others port → ⊥) → TakesOwn to.ip others client.runs))
takes_none_or_one inputs outputs to client =
    elim (takes to client.runs (λ opened none. asks_there client.opens)).taken [
      | inl all ↦ inl all
      | inr one ↦ inr (one.0, one.1)
    ]

pub takes_one : {G K : Type 0} (inputs : SourceMeaning G) (outputs : SinkMeaning K) → ClientsTakeOne inputs outputs
takes_one inputs outputs to client =
    elim (takes_none_or_one inputs outputs to client) [
      | inl all ↦ (0, λ others n. all others)
      | inr one ↦ one
    ]
