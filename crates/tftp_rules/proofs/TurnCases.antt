-- The turns by which an open end carries out an action.
-- For TermsTaken, and for the laws of worlds (tftp_player).
use Rattle.tftp_rules.proofs.Common.{◌≡◌, List, sym, true, false, ℕ, rules, Bool, subst, Ok, Result, Err, ◌≢◌, Holding}
use Rattle.tftp_rules.proofs.Common.{SinkMeaning, SourceMeaning, StoreFault, Files, Source, Sink, EndState, Turn}
use Rattle.tftp_rules.proofs.Common.{response_turn, Acts, SendsFrom, StoresIn, block_length, sent_turn, refused_turn}
use Rattle.tftp_rules.proofs.Common.{GoesOn, Done, committed_turn, commit_reply, result_count_is, holding, ack_bytes}
use Rattle.tftp_rules.proofs.Common.{data_bytes, Action, Respond, Send, Store, Response, Fresh, Sending, Receiving}
use Rattle.tftp_rules.proofs.Common.{Dallying, Terms, Endpoint, if_either}
use Rattle.tftp_ends.specs.declared.error_reply.ErrorReply.TheVariants.{DiskFull, FileChanged}
use Rattle.tftp_ends.specs.declared.outcome.Outcome.TheVariants as outcomes

-- a turn of the end that carries out this action, on a datagram from there
pub data TurnBy (from : Endpoint) (e : EndState) : Action → Turn → Type 0 where
  Responds : (response : Response) → TurnBy from e (Respond response) (response_turn response from e)
  Sends_data : (terms : Terms) (n : ℕ) (piece : List ℕ) →
      TurnBy from e (Send terms n) (sent_turn (Sending terms n) from (data_bytes n piece) e)
  Cannot_read : (terms : Terms) (n : ℕ) →
      TurnBy from e (Send terms n) (refused_turn terms FileChanged outcomes.SourceFault from e)
  Has_stored : (terms : Terms) (n : ℕ) (after : List ℕ) → n ≢ 0 →
      TurnBy from e (Store terms n) (sent_turn (Receiving terms n) from (ack_bytes n) (holding after e))
  Has_all : (terms : Terms) (n : ℕ) (after : List ℕ) →
      TurnBy from e (Store terms n) (sent_turn (Dallying terms n Fresh) from (ack_bytes n) (holding after e))
  Cannot_append : (terms : Terms) (n : ℕ) →
      TurnBy from e (Store terms n) (refused_turn terms DiskFull outcomes.StoreFault from e)
  Cannot_commit : (terms : Terms) (n : ℕ) (after : List ℕ) (fault : StoreFault) →
      TurnBy from e (Store terms n)
      (refused_turn terms (commit_reply fault) outcomes.StoreFault from (holding after e))

module _ (sources : SourceMeaning (List ℕ)) (sinks : SinkMeaning Holding) (from : Endpoint) (bytes : List ℕ)
    (e : EndState) where
  moved : (action : Action) (turn turn' : Turn) → turn ≡ turn' → TurnBy from e action turn' → TurnBy from e action turn
  moved action turn turn' is h = subst (λ (t : Turn). TurnBy from e action t) (sym is) h

  committed : (terms : Terms) (number : ℕ) (after : List ℕ) (answer : Result Done StoreFault) →
      TurnBy from e (Store terms number) (committed_turn terms number from (holding after e) answer)
  committed terms number after (Ok done) = Has_all terms number after
  committed terms number after (Err fault) = Cannot_commit terms number after fault

  goes :
      (terms : Terms) (number : ℕ) (last : Bool) (after : List ℕ) (mid sink' : Holding)
      (answer : Result Done StoreFault) (turn : Turn) → number ≢ 0 →
      GoesOn sinks terms number from e last after mid answer turn sink' →
      TurnBy from e (Store terms number) turn
  goes terms number last after mid sink' (Err fault) turn positive g =
      moved (Store terms number) turn _ g.0 (Cannot_append terms number)
  goes terms number true after mid sink' (Ok done) turn positive g =
      moved (Store terms number) turn _ g.answers (committed terms number after g.answer)
  goes terms number false after mid sink' (Ok done) turn positive g =
      moved (Store terms number) turn _ g.0 (Has_stored terms number after positive)

  stores : (terms : Terms) (number : ℕ) (piece : List ℕ) (files files' : Files (List ℕ) Holding) (turn : Turn) →
      number ≢ 0 →
      StoresIn sources sinks terms number from piece e files turn files' →
      TurnBy from e (Store terms number) turn
  stores terms number piece files files' turn positive d = search (rules, goes)

  sends : (terms : Terms) (number : ℕ) (files files' : Files (List ℕ) Holding) (turn : Turn) →
      SendsFrom sources sinks terms number from e files turn files' →
      TurnBy from e (Send terms number) turn
  sends terms number (Source left) (Source left') turn d =
      moved _ _ _ d.answers (if_either (TurnBy from e (Send terms number))
      (result_count_is (block_length e.role.length terms.size number) d.answer) _ _
      (λ _. Sends_data terms number d.piece) (λ _. Cannot_read terms number))
  sends terms number (Source left) (Sink sink) turn d = absurd d
  sends terms number (Sink sink) files' turn d = absurd d

  -- it carries it out by one of these
  pub acts_by : (action : Action) (files files' : Files (List ℕ) Holding) (turn : Turn) →
      Acts sources sinks action from bytes e files turn files' → TurnBy from e action turn
  acts_by (Respond response) files files' turn a = moved (Respond response) turn _ a.0 (Responds response)
  acts_by (Send terms number) files files' turn a = sends terms number files files' turn a
  acts_by (Store terms number) files files' turn a = stores terms number a.0 files files' turn a.1.valid.0 a.2
