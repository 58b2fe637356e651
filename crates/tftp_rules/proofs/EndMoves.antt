-- The answers of an open end that touch no file: ERRORs, retransmissions, acknowledgements. For four other files and
-- the crates tftp_player and tftp_promises.
use Rattle.tftp_rules.proofs.Common.{◌≡◌, List, refl, sym, true, [], false, ℕ, rules, ◌∷◌, arith, Some, Bool, ◌++◌, ap}
use Rattle.tftp_rules.proofs.Common.{Option, not, std_rules, append-nil, if◌then◌else◌, is_some, IsValid, canonical}
use Rattle.tftp_rules.proofs.Common.{IsPrefixOf, wire_text, Holding, Files, is_sender, terms_of, outcome_of}
use Rattle.tftp_rules.proofs.Common.{is_complete, Turn, response_turn, Response, Close, Refuse, Ignore, WrongPeer}
use Rattle.tftp_rules.proofs.Common.{ResendReply, Retransmit, ErrorReply, Outcome, Phase, Terms, EndKept, Goes, IsThere}
use Rattle.tftp_rules.proofs.Common.{IsOpenAt, Endpoint, Network, Message, Error, OpenEnd, files_of, in_state}
use Rattle.tftp_rules.proofs.Common.{end_after, has_failed, goes_on, text_of_end, Rule, message, Says_error, Repeats}
use Rattle.tftp_rules.proofs.Common.{said, EndView, Replies}
use Rattle.tftp_ends.specs.Step.{with_position, after}
use Rattle.tftp_ends.specs.declared.error_reply.ErrorReply.TheVariants.{UnknownTransferId}
use Rattle.tftp_ends.specs.ErrorReply.{error_packet}
use Rattle.tftp_rules.proofs.Actions.{goes, closes, refuses}
use Rattle.tftp_rules.proofs.SaidLemmas.{spells_own}

-- each ERROR can be spelled
pub valid_error : (r : ErrorReply) → IsValid (error_packet r)
valid_error r = search rules

-- an ERROR
pub error_says : (r : ErrorReply) (from to : Endpoint) →
    Replies from (Some (record { to = to; bytes = canonical (error_packet r) })) (message from to Error ∷ [])
error_says r from to = (error_packet r, spells_own (error_packet r) (valid_error r), refl)

-- an end that has no outcome has not failed
pub open_live : (phase : Phase) → is_some (outcome_of phase) ≡ false → has_failed phase ≡ false
open_live phase e = search rules

text_cut : (b g : Bool) (f w h : List ℕ) → IsPrefixOf (if b then f else w) (if b then f else if g then w ++ h else w)
text_cut true g f w h = ([], append-nil f)
text_cut false true f w h = (h, refl)
text_cut false false f w h = ([], append-nil w)

-- an end that gave up
pub failed_view : (e : EndView) (t : List ℕ) (b : Bool) (p : Option Endpoint) (size : ℕ) → b ≡ false →
    record e { peer = p; size = size; failed = true; text = t } ≡ record e {
      peer = p;
      size = size;
      failed = not b;
      text = t;
    }
failed_view e t b p size z = ap (λ (c : Bool). record e { peer = p; size = size; failed = not c; text = t }) (sym z)

-- an end that goes on is neither complete nor failed
pub going_live : (phase : Phase) → goes_on phase ≡ true → (is_complete phase ≡ false) × (has_failed phase ≡ false)
going_live phase e = search rules

-- the end after it has responded so
abbrev pub responded : OpenEnd → Response → Endpoint → OpenEnd
responded x response from = in_state (with_position (after response from x.state) x.state) x

module _ (network : Network) where
  -- the step of an end that responds so is shown
  abbrev pub Responding : List Rule → List EndView → List Message → ℕ → OpenEnd → Response → Endpoint → Type 0
  Responding first views messages k x response from =
      Goes network first views messages k x (response_turn response from x.state) (responded x response from)

  -- a response, which touches no file
  pub from_response : (first : List Rule) (views : List EndView) (messages : List Message) (k : ℕ) (x : OpenEnd)
      (response : Response) (from : Endpoint) (turn : Turn) (held : Files (List ℕ) Holding) →
      Responding first views messages k x response from →
      (turn ≡ response_turn response from x.state) × (held ≡ files_of x) →
      Goes network first views messages k x turn (end_after x turn held)
  from_response first views messages k x response from turn held g h = search rules

  -- to set a receiver's next append to be refused leaves the end consistent
  pub end_armed : (x : OpenEnd) (refuses : Bool) → EndKept network x → EndKept network (record x { refuses = refuses })
  end_armed x refuses h = search rules

module _ {network : Network} {first : List Rule} {views : List EndView} {messages : List Message} {k : ℕ} {x : OpenEnd}
    (h : IsOpenAt network first views messages k x) where
  -- nothing changes
  pub ignores : (from : Endpoint) → Responding network first views messages k x Ignore from
  ignores from =
      let shown_now = goes h.stands [] (omega arith) (open_live _ h.still) tt in
      search rules

  -- an ERROR is sent to a wrong peer
  pub answers_wrong_peer : (from : Endpoint) → Responding network first views messages k x WrongPeer from
  answers_wrong_peer from =
      let says = error_says UnknownTransferId x.address from in
      let shown_now =
      goes h.stands (Says_error x.address from ∷ []) (omega arith) (open_live _ h.still) (refl, tt, tt) in
      search rules

  -- the last datagram is retransmitted
  pub answers_again : (from : Endpoint) → from ≡ x.state.position.last_sent_to →
      Responding network first views messages k x ResendReply from
  answers_again from same =
      let old : IsThere messages x.address from x.state.position.last_sent = rw same h.last_sent in
      let shown_now =
      goes h.stands (Repeats (message x.address from (said old.0)) ∷ []) (omega arith) (open_live _ h.still) (
        refl,
        old.2,
        tt,
      ) in
      search rules

  -- a timeout: the last datagram is retransmitted, for one retry
  pub retries : (from : Endpoint) → Responding network first views messages k x Retransmit from
  retries from =
      let old = h.last_sent in
      let shown_now =
      goes h.stands (Repeats (message x.address x.state.position.last_sent_to (said old.0)) ∷ []) (omega arith)
      (open_live _ h.still) (refl, old.2, tt) in
      search rules

  -- an end that has given up is kept
  closed_kept : (terms : Option Terms) (outcome : Outcome) →
      EndKept network (responded x (Refuse terms UnknownTransferId outcome) x.address)
  closed_kept terms outcome = record { phase = tt; held_back = h.kept.held_back; committed = h.kept.committed }

  -- what it has of a text once it has closed: nothing that it held back
  abbrev text_left : List ℕ
  text_left = if is_sender x.state.role.side then x.text else wire_text x.state.role.mode x.stored

  left_first : IsPrefixOf text_left (text_of_end x)
  left_first = search (std_rules, text_cut, is_sender, goes_on, wire_text)

  left_sent : is_sender x.state.role.side ≡ true → text_of_end x ≡ text_left
  left_sent = search std_rules

  -- it closes without a reply
  pub gives_up : (outcome : Outcome) (from : Endpoint) → goes_on x.state.position.phase ≡ true →
      Responding network first views messages k x (Close outcome) from
  gives_up outcome from going =
      let live = going_live x.state.position.phase going in
      let shown_now = closes h.stands text_left (refl, live.0, live.1) left_first left_sent in
      search rules

  -- it gives up, and sends an ERROR
  pub refuses_now : (reply : ErrorReply) (outcome : Outcome) (from : Endpoint) →
      goes_on x.state.position.phase ≡ true →
      Responding network first views messages k x (Refuse (terms_of x.state.position.phase) reply outcome) from
  refuses_now reply outcome from going =
      let live = going_live _ going in
      let shown_now = refuses h.stands from _ (refl, live.0, live.1) left_first left_sent in
      search (rules, failed_view, error_says, closed_kept)
