-- An end that has a peer keeps it, and answers a datagram to its sender; at a timeout it sends its last datagram again.
use Rattle.std.proofs.Common.{rules as std_rules}
use Rattle.tftp_promises.proofs.Common.{List, ℕ, ◌≡◌, rules, sym, Endpoint, refl, [], SourceMeaning, Some, subst, inl}
use Rattle.tftp_promises.proofs.Common.{StoreMeaning, ◌∷◌, SinkMeaning, false, true, None, ◌++◌, Programs, Bool}
use Rattle.tftp_promises.proofs.Common.{EndState, ◌⊎◌, Contains, Files, Option, true≢false, ◌≢◌, length, outcome_of}
use Rattle.tftp_promises.proofs.Common.{OpenEnd, if◌then◌else◌, Turn, IsStranger, open_view, Mode, Message, WirePacket}
use Rattle.tftp_promises.proofs.Common.{EndView, ◌==◌, after_turn, Reply, is_client, timeout_turn, IsShown, message}
use Rattle.tftp_promises.proofs.Common.{Outcome, peer_of, Action, said, set, Elsewhere, Acts, Respond, end_after}
use Rattle.tftp_promises.proofs.Common.{datagram_action, Terms, error_bytes, ◌&&◌, Network, EndKept, is_some}
use Rattle.tftp_promises.proofs.Common.{has_error_opcode, Store, Phase, files_of, nat_lt, AreSame, response_turn}
use Rattle.tftp_promises.proofs.Common.{files_in, ⊤, At_server, Send, terms_of, Goes, Attests, Machine, if_acts, Accept}
use Rattle.tftp_promises.proofs.Common.{WrongPeer, packet_action, Ignore, is_wrong_peer, garbled_response, is_none}
use Rattle.tftp_promises.proofs.Common.{Stands, Response, Refuse, At_client, UnknownTransferId, says_error, Close}
use Rattle.tftp_promises.proofs.Common.{next_action, illegal_action, is_readable, data_action, shown_by, KeepsStore}
use Rattle.tftp_promises.proofs.Common.{Holds, PhaseKept, sender_action, with_position, IsAnswer, Closed, Wait}
use Rattle.tftp_promises.proofs.Common.{timeout_response, answer}
use Rattle.tftp_ends.specs.declared.action.Response.TheVariants.{Retransmit}
use Rattle.tftp_ends.specs.Receiver.{receiver_action, dally_response}
use Rattle.tftp_ends.specs.Step.{after}
use Rattle.tftp_rules.specs.EndShown.{IsThere}
use Rattle.tftp_rules.specs.Machine.{Error}
use Rattle.tftp_rules.specs.OpenEnds.{in_state, with_phase}
use Rattle.tftp_rules.specs.Rules.{Rule}
use Rattle.tftp_rules.specs.Shows.{IsShownWithin}
use Rattle.tftp_rules.proofs.Actions.{repeats}
use Rattle.tftp_rules.proofs.EndMoves.{error_says, from_response}
use Rattle.tftp_ends.specs.declared.error_reply.ErrorReply.TheVariants as replies
use Rattle.tftp_ends.specs.declared.outcome.Outcome.TheVariants as outcomes
use Rattle.tftp_promises.proofs.Invariant.{IsStrangers}
use Rattle.tftp_promises.proofs.Orders.{set_own}

-- the peer that had this peer, and sent its last datagram there, keeps it in the turn; its answer goes to `from`
pub record PeerStays (from : Endpoint) (peer : Option Endpoint) (last : Endpoint) (turn : Turn) : Type 0 where
  pub peer_is : peer_of turn.position.phase ≡ peer
  pub replies : (reply : Reply) → turn.reply ≡ Some reply → reply.to ≡ from
  pub last_is : (turn.position.last_sent_to ≡ last) ⊎ (turn.position.last_sent_to ≡ from)

-- ---- the actions for a datagram
-- a response that leaves these terms, and is sent to the datagram's sender
abbrev LeavesTerms : Option Terms → Response → Type 0
LeavesTerms o Retransmit = ⊥
LeavesTerms o Wait = ⊥
LeavesTerms o (Refuse terms reply outcome) = terms ≡ o
LeavesTerms o (Accept terms) = ⊥
LeavesTerms o response = Unit {0}

abbrev KeepsTerms : Option Terms → Action → Type 0
KeepsTerms o (Respond response) = LeavesTerms o response
KeepsTerms o (Send terms number) = Some terms ≡ o
KeepsTerms o (Store terms number) = Some terms ≡ o

sender_keeps : (client : Bool) (long : ℕ) (terms : Terms) (number : ℕ) (decoded : Option WirePacket) →
    KeepsTerms (Some terms) (sender_action client long terms number decoded)
sender_keeps client long terms number decoded = search rules

next_keeps : (mode : Mode) (held : List ℕ) (terms : Terms) (number : ℕ) (bytes : List ℕ) →
    KeepsTerms (Some terms) (next_action mode held terms number bytes)
next_keeps mode held terms number bytes =
    let P = KeepsTerms (Some terms) in
    if_acts P (nat_lt terms.size (length bytes)) (illegal_action terms) _ (λ b. refl)
    (λ f. if_acts P (number == 65535 && (length bytes == terms.size))
    (Respond (Refuse (Some terms) replies.FileTooLarge outcomes.TooLarge)) _ (λ b. refl)
    (λ g. if_acts P (is_readable mode held bytes (nat_lt (length bytes) terms.size)) (Store terms number)
    (Respond (Refuse (Some terms) replies.NotNetascii outcomes.NotNetascii)) (λ b. refl) (λ b. refl)))

data_keeps : (mode : Mode) (held : List ℕ) (terms : Terms) (stored number : ℕ) (bytes : List ℕ) →
    KeepsTerms (Some terms) (data_action mode held terms stored number bytes)
data_keeps mode held terms stored number bytes = search (rules, if_acts, next_keeps)

receiver_keeps : (client : Bool) (mode : Mode) (held : List ℕ) (terms : Terms) (stored : ℕ)
    (decoded : Option WirePacket) → KeepsTerms (Some terms) (receiver_action client mode held terms stored decoded)
receiver_keeps client mode held terms stored decoded = search (rules, data_keeps, if_acts)

dally_keeps : (o : Option Terms) (stored : ℕ) (decoded : Option WirePacket) →
    LeavesTerms o (dally_response stored decoded)
dally_keeps o stored decoded = search rules

garbled_keeps : (phase : Phase) → LeavesTerms (terms_of phase) (garbled_response phase)
garbled_keeps phase = search rules

packet_keeps : (e : EndState) (from : Endpoint) (decoded : Option WirePacket) (phase : Phase) (peer : Endpoint) →
    peer_of phase ≡ Some peer → KeepsTerms (terms_of phase) (packet_action e from decoded phase)
packet_keeps e from decoded phase peer is = search (rules, sender_keeps, receiver_keeps, dally_keeps)

action_keeps : (e : EndState) (from : Endpoint) (bytes : List ℕ) (decoded : Option WirePacket) (peer : Endpoint) →
    peer_of e.position.phase ≡ Some peer → KeepsTerms (terms_of e.position.phase) (datagram_action e from bytes decoded)
action_keeps e from bytes decoded peer is =
    let P = KeepsTerms (terms_of e.position.phase) in
    if_acts P (is_wrong_peer (terms_of e.position.phase) e.position.last_sent_to from)
    (if has_error_opcode bytes then Respond Ignore else Respond WrongPeer) _
    (λ f. if_acts P (has_error_opcode bytes) (Respond Ignore) (Respond WrongPeer) (λ b. tt) (λ b. tt))
    (λ f. if_acts P (has_error_opcode bytes && is_none decoded) (Respond (garbled_response e.position.phase))
    (packet_action e from decoded e.position.phase)
    (λ b. garbled_keeps e.position.phase) (λ b. packet_keeps e from decoded e.position.phase peer is))

-- the turn of an end at this position
abbrev StaysBy : Endpoint → EndState → Turn → Type 0
StaysBy from e turn = PeerStays from (peer_of e.position.phase) e.position.last_sent_to turn

module _ {S K : Type 0} (sources : SourceMeaning S) (sinks : SinkMeaning K) (from : Endpoint) (e : EndState) where
  pub acts_stay : (action : Action) (bytes : List ℕ) (files : Files S K) (turn : Turn) (files' : Files S K) →
      Acts sources sinks action from bytes e files turn files' → KeepsTerms (terms_of e.position.phase) action →
      StaysBy from e turn
  acts_stay action bytes files turn files' acts k = search rules

  -- after a datagram
  pub datagram_stays : (bytes : List ℕ) (decoded : Option WirePacket) (files : Files S K) (turn : Turn)
      (files' : Files S K) → Acts sources sinks (datagram_action e from bytes decoded) from bytes e files turn files' →
      (peer : Endpoint) → peer_of e.position.phase ≡ Some peer → StaysBy from e turn
  datagram_stays bytes decoded files turn files' acts peer is =
      acts_stay _ _ _ _ _ acts (action_keeps e from bytes decoded _ is)

module _ (e : EndState) where
  abbrev P : Response → Type 0
  P response = StaysBy e.position.last_sent_to e (response_turn response e.position.last_sent_to e)

  timeout_by_phase : (phase : Phase) → P (timeout_response e.position.retries_left phase)
  timeout_by_phase phase = search rules

  pub timeout_stays : StaysBy e.position.last_sent_to e (timeout_turn e)
  timeout_stays = timeout_by_phase e.position.phase

pub wrong_peer : (e : EndState) (from : Endpoint) (bytes : List ℕ) (decoded : Option WirePacket) (peer : Endpoint) →
    peer_of e.position.phase ≡ Some peer → peer ≢ from →
    datagram_action e from bytes decoded ≡ (if has_error_opcode bytes then Respond Ignore else Respond WrongPeer)
wrong_peer e from bytes decoded peer is n = search rules

-- an ERROR to its sender is all that answers it
pub wrong_replies : {S K : Type 0} (sources : SourceMeaning S) (sinks : SinkMeaning K) (from : Endpoint) (e : EndState)
    (b : Bool) (bytes : List ℕ) (files : Files S K) (turn : Turn) (files' : Files S K) →
    Acts sources sinks (if b then Respond Ignore else Respond WrongPeer) from bytes e files turn files' →
    (reply : Reply) → turn.reply ≡ Some reply →
    reply ≡ record { to = from; bytes = error_bytes replies.UnknownTransferId }
wrong_replies sources sinks from e b bytes files turn files' acts reply says = search rules

-- ---- the end of a stranger's transfer stays one
module _ {S F D G K : Type 0} {stores : StoreMeaning S D} {sources : SourceMeaning F} {inputs : SourceMeaning G}
    {outputs : SinkMeaning K} (programs : Programs stores sources inputs outputs) where
  pub stays_strangers : (from : Endpoint) (e : EndState) (turn : Turn) → IsStranger programs from →
      IsStrangers programs e → StaysBy from e turn → IsStrangers programs (after_turn e turn)
  stays_strangers from e turn strange h s = search rules

-- A closed end with any datagram, and at a timeout: it sends an ERROR or its last datagram at most, and its view stays.

module _ (network : Network) (first : List Rule) (views : List EndView) (messages : List Message) (k : ℕ) where
  module _ (x : OpenEnd) (s : Stands network first views messages k (open_view x)) where
    -- the view of the end stays
    still_shown : (all : List Message) → IsShownWithin network 3 first views all →
        IsShownWithin network 3 first (set views k (open_view x)) all
    still_shown all h = search (rules, set_own)

    nothing_said : IsShownWithin network 3 first views (messages ++ [])
    nothing_said = search rules

    ignores : EndKept network x → (from : Endpoint) →
        Goes network first views messages k x (response_turn Ignore from x.state) x
    ignores kept from = search (rules, still_shown, nothing_said)

    answers_wrong_peer : EndKept network x → (from : Endpoint) →
        Goes network first views messages k x (response_turn WrongPeer from x.state) x
    answers_wrong_peer kept from = record {
      said_now = message x.address from Error ∷ [];
      shown = search (std_rules, still_shown, message, says_error);
      replies = error_says UnknownTransferId x.address from;
      kept = kept;
      side = refl;
      last_sent = inl (refl, refl);
      stored = λ _. refl;
    }

  -- how a closed end answers a datagram
  pub record ClosedAnswers (x : OpenEnd) (from : Endpoint) (action : Action) : Type 0 where
    pub response : Response
    pub is : action ≡ Respond response
    pub same : after response from x.state ≡ x.state.position
    pub goes : Goes network first views messages k x (response_turn response from x.state) x

  -- it is ignored, or refused as another peer's
  ignored_or_refused : (x : OpenEnd) → Stands network first views messages k (open_view x) → EndKept network x →
      (from : Endpoint) → ClosedAnswers x from (Respond Ignore) × ClosedAnswers x from (Respond WrongPeer)
  ignored_or_refused x s kept from = (
    record { response = Ignore; is = refl; same = refl; goes = ignores x s kept from },
    record { response = WrongPeer; is = refl; same = refl; goes = answers_wrong_peer x s kept from },
  )

  module _ (x0 : OpenEnd) (terms : Option Terms) (n : ℕ) (complete : Bool) (outcome : Outcome) where
    abbrev closed_end : OpenEnd
    closed_end = with_phase (Closed terms n complete outcome) x0

    module _ (s : Stands network first views messages k (open_view closed_end))
        (kept : EndKept network closed_end) where
      answers : (from : Endpoint) (bytes : List ℕ) (decoded : Option WirePacket) →
          ClosedAnswers closed_end from (datagram_action closed_end.state from bytes decoded)
      answers from bytes decoded =
          let parts = ignored_or_refused closed_end s kept from in search rules

      abbrev Turns_by : Response → Type 0
      Turns_by response =
          Goes network first views messages k closed_end (response_turn response closed_end.state.position.last_sent_to
          closed_end.state)
          (in_state (with_position (after response closed_end.state.position.last_sent_to closed_end.state)
          closed_end.state) closed_end)

      -- the end of a transfer that has ended ends again
      ends_again : (o : Outcome) → Turns_by (Close o)
      ends_again o = record {
        said_now = [];
        shown = still_shown closed_end s (messages ++ []) (nothing_said closed_end s);
        replies = refl;
        kept = record { phase = tt; held_back = kept.held_back; committed = kept.committed };
        side = refl;
        last_sent = inl (refl, refl);
        stored = λ _. refl;
      }

      retransmits : IsThere messages closed_end.address closed_end.state.position.last_sent_to
          closed_end.state.position.last_sent → Turns_by Retransmit
      retransmits old =
          let m = message closed_end.address closed_end.state.position.last_sent_to (said old.0) in
          record {
            said_now = m ∷ [];
            shown =
                still_shown closed_end s (messages ++ m ∷ []) (repeats network first views messages s.shown m old.2);
            replies = (old.0, old.1, refl);
            kept = record { phase = tt; held_back = kept.held_back; committed = kept.committed };
            side = refl;
            last_sent = inl (refl, refl);
            stored = λ _. refl;
          }

      times_out : IsThere messages closed_end.address closed_end.state.position.last_sent_to
          closed_end.state.position.last_sent →
          Turns_by (timeout_response x0.state.position.retries_left (Closed terms n complete outcome))
      times_out old = search (rules, if_acts, ends_again, retransmits)

  -- a closed end with any datagram
  pub closed_datagram_goes : (x : OpenEnd) → Stands network first views messages k (open_view x) → EndKept network x →
      is_some (outcome_of x.state.position.phase) ≡ true →
      (from : Endpoint) (bytes : List ℕ) (decoded : Option WirePacket) →
      ClosedAnswers x from (datagram_action x.state from bytes decoded)
  closed_datagram_goes x s kept closed from bytes decoded = by_phase x.state.position.phase s kept closed where
    by_phase : (phase : Phase) → Stands network first views messages k (open_view (with_phase phase x)) →
        EndKept network (with_phase phase x) → is_some (outcome_of phase) ≡ true →
        ClosedAnswers (with_phase phase x) from (datagram_action (with_phase phase x).state from bytes decoded)
    by_phase (Closed terms n complete outcome) t kept c = answers x terms n complete outcome t kept from bytes decoded
    by_phase phase t kept c = absurd (true≢false (sym c))

  -- an end with a datagram that is not from its peer
  pub wrong_datagram_goes : (x : OpenEnd) → Stands network first views messages k (open_view x) → EndKept network x →
      (peer : Endpoint) → peer_of x.state.position.phase ≡ Some peer → (from : Endpoint) → peer ≢ from →
      (bytes : List ℕ) (decoded : Option WirePacket) → ClosedAnswers x from (datagram_action x.state from bytes decoded)
  wrong_datagram_goes x s kept peer is from n bytes decoded =
      let parts = ignored_or_refused x s kept from in search rules

  -- a closed end at a timeout
  pub closed_timeout_goes : (x : OpenEnd) → Stands network first views messages k (open_view x) → EndKept network x →
      is_some (outcome_of x.state.position.phase) ≡ true →
      IsThere messages x.address x.state.position.last_sent_to x.state.position.last_sent →
      Goes network first views messages k x (timeout_turn x.state) (end_after x (timeout_turn x.state) (files_of x))
  closed_timeout_goes x s kept closed old = search (rules, from_response, times_out, true≢false)

-- An end at a port: its peer, and its files over one store.

module _ (network : Network) where
  -- an open end of the server has a peer
  pub has_peer : (x : OpenEnd) (phase : Phase) → PhaseKept network x phase → is_client x.state.role.side ≡ false →
      is_some (outcome_of phase) ≡ false → peer_of phase ≡ None → ⊥
  has_peer x phase h side o e = search rules

-- the same files of a transfer, over the same store
module _ {S F D : Type 0} where
  pub same_in : (store store' : S) (path path' : List ℕ) (replace : Bool) (files files' : Files F D) →
      files_in store' path' replace files' ≡ files_in store path replace files →
      KeepsStore files store store' → AreSame (λ (a b : F). ⊤) (λ (a b : D). ⊤) files files' →
      (store' ≡ store) × (files' ≡ files)
  same_in store store' path path' replace files files' same stays kind = search rules

-- An answer to a client that has no peer comes from the server: a client's DATA, ACK or OACK goes to its peer, which is
-- at the server.

module _ (network : Network) where
  module _ (m : Machine) (holds : Holds network m) (from to : Endpoint)
      (at_client : network.host_of to ≡ At_client) where
    by_packet : (p : WirePacket) → IsAnswer p → Attests (m.party from) to (said p) → network.host_of from ≡ At_server
    by_packet p answer h = search rules

  pub answer_from_server : (views : List EndView) (messages : List Message) → IsShown network views messages →
      (from to : Endpoint) → network.host_of from ≢ Elsewhere → network.host_of to ≡ At_client →
      (p : WirePacket) → IsAnswer p → Contains messages (message from to (said p)) → network.host_of from ≡ At_server
  answer_from_server views messages shown from to somewhere at_client p answer come =
      let by = shown_by network views messages shown in
      let sent = subst (λ (ms : List Message). Contains ms (message from to (said p))) (sym by.3.sent) come in
      by_packet by.0 by.1 from to at_client p answer (by.1.attested (message from to (said p)) sent somewhere)
