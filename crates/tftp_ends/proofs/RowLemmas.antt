-- An end's step for a datagram, in the vocabulary of the tables. For four other files.
use Rattle.std.proofs.Common.{rules}
use Rattle.tftp_ends.proofs.Common.{◌≡◌, ◌≤◌, ℕ, Bool, true, false, List, [], ◌∷◌, length, Option, Some, None, refl}
use Rattle.tftp_ends.proofs.Common.{sym, ap, ◌∙◌, true≢false, eq-eqb, le-ltb, ◌+◌, ◌==◌, ◌&&◌, not, nat_lt, is_none}
use Rattle.tftp_ends.proofs.Common.{if◌then◌else◌, has_error_opcode, Spells, Packet, Data, Ack, SourceMeaning}
use Rattle.tftp_ends.proofs.Common.{SinkMeaning, StoreFault, Files, Action, Respond, Send, Store, Ignore, WrongPeer}
use Rattle.tftp_ends.proofs.Common.{ResendReply, Close, Refuse, Endpoint, ErrorReply, NotNetascii, Outcome, Fresh}
use Rattle.tftp_ends.proofs.Common.{Phase, Sending, Receiving, Dallying, Terms, Decodes, packet_action}
use Rattle.tftp_ends.proofs.Common.{garbled_response, is_wrong_peer, EndState, terms_of, number_of, is_progress}
use Rattle.tftp_ends.proofs.Common.{next_action, Handled, RefusesBy, illegal_action, sent_turn, refused_turn}
use Rattle.tftp_ends.proofs.Common.{data_bytes, block_length, is_readable}
use Rattle.std.specs.Prelude.{nat_eq}
use Rattle.std.specs.Cmp.Lexicographic.{pointwise}
use Rattle.tftp_wire.specs.Spelling.{canonical}
use Rattle.tftp_wire.proofs.SpellingLemmas.{one_meaning, spelled_has_no_fault}
use Rattle.tftp_file.specs.declared.fault.StoreFault.TheVariants as faults
use Rattle.tftp_file.specs.declared.files.Files.TheVariants.{Source, Sink}
use Rattle.tftp_ends.specs.declared.error_reply.ErrorReply.TheVariants.{FileChanged}
use Rattle.tftp_ends.specs.declared.outcome.Outcome.TheVariants as outcomes
use Rattle.tftp_ends.specs.Action.{same_address, same_endpoint}
use Rattle.tftp_ends.specs.End.{is_complete}
use Rattle.tftp_ends.specs.ErrorReply.{code_of, text_of}
use Rattle.tftp_ends.specs.ReceiverRows.{HandsToSink, NextRow}
use Rattle.tftp_ends.specs.Rows.{DoesNothing, ClosesInSilence, AnswersBy, AnswersAgain}
use Rattle.tftp_ends.specs.SenderRows.{SendsBlock, SendsFromSource}
use Rattle.tftp_ends.specs.Step.{Acts, AcksAgain, SendsFrom, StoresIn, result_count_is}
use Rattle.tftp_ends.proofs.ActionLemmas.{data_after_header}

-- ---- the packet of a datagram
decoded_is : (bytes : List ℕ) (packet : Packet) (decoded : Option Packet) → Spells packet bytes →
    Decodes bytes decoded → decoded ≡ Some packet
decoded_is bytes packet (Some other) s d = ap (λ (p : Packet). Some p) (one_meaning other packet bytes d s)
decoded_is bytes packet None s d =
    absurd (let f : None ≡ Some d.0 = sym (spelled_has_no_fault packet bytes s) ∙ d.1 in cc)

-- ---- its sender
same_list : (xs : List ℕ) → pointwise nat_eq xs xs ≡ true
same_list [] = refl
same_list (x ∷ xs) = ap (λ (b : Bool). b && pointwise nat_eq xs xs) (eq-eqb x x refl) ∙ same_list xs

-- an address is not that of another host
pub own_address : (a b : Endpoint) → b.ip ≡ a.ip → not (same_address a b) ≡ false
own_address a b e = ap (λ (ip : List ℕ). not (pointwise nat_eq a.ip ip)) e ∙ ap not (same_list a.ip)

-- a peer is not another
pub own_peer : (a b : Endpoint) → b ≡ a → not (same_endpoint a b) ≡ false
own_peer a b e = search rules

-- ---- a test
-- the branch of a choice whose test is true
pub if_yes : {A : Type 0} (P : A → Type 0) (b : Bool) (x y : A) → b ≡ true → P (if b then x else y) → P x
if_yes P true x y e h = h
if_yes P false x y e h = absurd (true≢false (sym e))

-- the branch of a choice whose test is false
pub if_no : {A : Type 0} (P : A → Type 0) (b : Bool) (x y : A) → b ≡ false → P (if b then x else y) → P y
if_no P true x y e h = absurd (true≢false e)
if_no P false x y e h = h

and_false : (b : Bool) → (b && false) ≡ false
and_false true = refl
and_false false = refl

module _ {S K : Type 0} {sources : SourceMeaning S} {sinks : SinkMeaning K} (c : Handled sources sinks) where
  -- the end made this turn
  abbrev pub DidSo : Action → Type 0
  DidSo action = Acts sources sinks action c.from c.bytes c.e c.files c.turn c.files' × AcksAgain c.e c.turn action

  -- its action for the decoded bytes, in a phase
  abbrev does_at : Option Packet → Phase → Action
  does_at decoded phase =
      if is_wrong_peer (terms_of phase) c.e.position.last_sent_to c.from
      then (if has_error_opcode c.bytes then Respond Ignore else Respond WrongPeer)
      else if has_error_opcode c.bytes && is_none decoded then Respond (garbled_response phase)
      else packet_action c.e c.from decoded phase

  did_at : (decoded : Option Packet) (phase : Phase) → c.step.decoded ≡ decoded → c.e.position.phase ≡ phase →
      DidSo (does_at decoded phase)
  did_at decoded phase says stands = search rules

  -- for a packet
  pub at_packet : (packet : Packet) (phase : Phase) →
      is_wrong_peer (terms_of phase) c.e.position.last_sent_to c.from ≡ false → c.e.position.phase ≡ phase →
      Spells packet c.bytes →
      DidSo (packet_action c.e c.from (Some packet) phase)
  at_packet packet phase own stands says =
      if_no DidSo (has_error_opcode c.bytes && false) (Respond (garbled_response phase)) (packet_action c.e c.from (Some
      packet) phase) (and_false (has_error_opcode c.bytes)) (if_no DidSo (is_wrong_peer (terms_of phase)
      c.e.position.last_sent_to c.from) (if has_error_opcode c.bytes then Respond Ignore else Respond WrongPeer) (if
      has_error_opcode c.bytes && false then Respond (garbled_response phase) else packet_action c.e c.from (Some
      packet) phase) own (did_at (Some packet) phase (decoded_is _ _ _ says c.step.says) stands))

  -- ---- without use of a file
  -- an end that ignores a datagram
  pub does_nothing : DidSo (Respond Ignore) → DoesNothing c
  does_nothing h = search rules

  -- an end that closes without an answer
  pub closes : (phase : Phase) (outcome : Outcome) → c.e.position.phase ≡ phase → DidSo (Respond (Close outcome)) →
      ClosesInSilence c (terms_of phase) (number_of phase) (is_complete phase) outcome
  closes phase outcome stands h = search rules

  -- an end that refuses a datagram
  pub refuses : (phase : Phase) (terms : Option Terms) (reply : ErrorReply) (outcome : Outcome) →
      c.e.position.phase ≡ phase → is_complete phase ≡ false →
      DidSo (Respond (Refuse terms reply outcome)) →
      RefusesBy c terms (number_of phase) (code_of reply) (text_of reply) outcome
  refuses phase terms reply outcome stands incomplete h = search rules

  -- an end that acknowledges again
  pub acks_again : (phase : Phase) → c.e.position.phase ≡ phase → DidSo (Respond ResendReply) →
      AnswersAgain c (Ack (number_of phase))
  acks_again phase stands h = search rules

  -- ---- a new datagram
  -- an end that enters its next phase and sends a packet
  pub answers : (phase next : Phase) (packet : Packet) (e : EndState) → e.position.phase ≡ phase →
      e.role.retries ≡ c.e.role.retries → is_progress phase next ≡ true →
      c.turn ≡ sent_turn next c.from (canonical packet) e → AnswersBy c next packet
  answers phase next packet e stands retries progress is = search rules

  -- ---- a source
  module _ (phase : Phase) (stands : c.e.position.phase ≡ phase) (incomplete : is_complete phase ≡ false)
      (terms : Terms) (number : ℕ) (progress : is_progress phase (Sending terms number) ≡ true) where
    block_row : (piece : List ℕ) (whole : Bool) →
        c.turn
        ≡ (if whole then sent_turn (Sending terms number) c.from (data_bytes number piece) c.e
        else refused_turn terms FileChanged outcomes.SourceFault c.from c.e) →
        SendsBlock c terms (number_of phase) number piece whole
    block_row piece whole is = search rules

    sends_of : (files files' : Files S K) → SendsFrom sources sinks terms number c.from c.e files c.turn files' →
        c.files ≡ files → c.files' ≡ files' → SendsFromSource c terms (number_of phase) number
    sends_of (Source s) (Source s') h a b = (
      record { source = s; source' = s'; files = a; files' = b; answer = h.answer; piece = h.piece; asks = h.reads },
      block_row h.piece (result_count_is (block_length c.e.role.length terms.size number) h.answer) h.answers,
    )
    sends_of (Source s) (Sink k') h a b = absurd h
    sends_of (Sink k) (Source s') h a b = absurd h
    sends_of (Sink k) (Sink k') h a b = absurd h

    pub sends : DidSo (Send terms number) → SendsFromSource c terms (number_of phase) number
    sends h = sends_of c.files c.files' h.0 refl refl

  -- ---- a sink
  module _ (phase : Phase) (stands : c.e.position.phase ≡ phase) (incomplete : is_complete phase ≡ false)
      (terms : Terms) (n : ℕ) (is_n : number_of phase ≡ n)
      (more : is_progress phase (Receiving terms (n + 1)) ≡ true)
      (last : is_progress phase (Dallying terms (n + 1) Fresh) ≡ true) where
    stores_of : (piece : List ℕ) (files files' : Files S K) →
        StoresIn sources sinks terms (n + 1) c.from piece c.e files c.turn files' → c.files ≡ files →
        c.files' ≡ files' → HandsToSink c terms n piece
    stores_of piece (Sink k) (Sink k') h a b = search rules
    stores_of piece (Sink k) (Source s') h a b = absurd h
    stores_of piece (Source s) (Sink k') h a b = absurd h
    stores_of piece (Source s) (Source s') h a b = absurd h

    pub stores : (piece : List ℕ) → Spells (Data (n + 1) piece) c.bytes → DidSo (Store terms (n + 1)) →
        HandsToSink c terms n piece
    stores piece says h = search (rules, data_after_header, stores_of)

    readable_row : (piece : List ℕ) (readable : Bool) → Spells (Data (n + 1) piece) c.bytes →
        DidSo
        (if readable then Store terms (n + 1) else Respond (Refuse (Some terms) NotNetascii outcomes.NotNetascii)) →
        NextRow c terms n piece readable
    readable_row piece readable says h = search (rules, stores, refuses)

    -- a block of this transfer that is not one too many
    pub next_row : (held piece : List ℕ) → Spells (Data (n + 1) piece) c.bytes → length piece ≤ terms.size →
        ((n + 1 == 65535) && (length piece == terms.size)) ≡ false →
        DidSo (next_action c.e.role.mode held terms (n + 1) piece) →
        NextRow c terms n piece (is_readable c.e.role.mode held piece (nat_lt (length piece) terms.size))
    next_row held piece says fits within h =
        search (rules, is_readable, nat_lt, length, readable_row, if_no, illegal_action, le-ltb)
