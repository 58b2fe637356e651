-- The table of a client that waits. For `waiting_rows`.
use Rattle.std.proofs.Common.{rules}
use Rattle.tftp_ends.proofs.Common.{ℕ, Bool, true, false, List, [], length, Option, Some, None, Result, refl, subst}
use Rattle.tftp_ends.proofs.Common.{nat_lt, nat_le, if◌then◌else◌, Spells, Packet, Data, Asked, Known, DEFAULT_BLOCK}
use Rattle.tftp_ends.proofs.Common.{Refusal, SourceMeaning, SinkMeaning, Action, Respond, Send, Refuse, FileTooLarge}
use Rattle.tftp_ends.proofs.Common.{Waiting, Terms, receiver_action, Handled, default_terms, agreed_terms, no_answer}
use Rattle.tftp_ends.proofs.Common.{refusal_action, accept_action, begin_with_action, reader_action, writer_action}
use Rattle.std.proofs.lemmas.Bool.{le-leb}
use Rattle.tftp_negotiate.specs.declared.known.Kind.TheVariants as kinds
use Rattle.tftp_negotiate.specs.declared.refusal.Refusal.TheVariants as refusals
use Rattle.tftp_ends.specs.declared.outcome.Outcome.TheVariants as outcomes
use Rattle.tftp_ends.specs.WaitingRows.{FromServer, RefusesOack, ReaderTakes, WriterBegins, WriterTakes}
use Rattle.tftp_ends.specs.WaitingRows.{FirstDataIsStored, OackOpensReader, ReaderTakesNoOther, FirstAckBegins}
use Rattle.tftp_ends.specs.WaitingRows.{OackOpensWriter, WriterTakesNoOther, ErrorClosesWaiting, MalformedClosesWaiting}
use Rattle.tftp_ends.proofs.RowLemmas.{DidSo, own_address, if_yes, at_packet, closes, refuses, sends, next_row}

module _ {S K : Type 0} (sources : SourceMeaning S) (sinks : SinkMeaning K) where
  module _ (c : Handled sources sinks) (writes : Bool) (asked : Asked) (limit : ℕ)
      (f : FromServer c writes asked limit) where
    -- how it handles a packet, by its kind
    abbrev reads_so : Option Packet → Action
    reads_so decoded = reader_action c.e.role.mode asked limit c.from decoded

    abbrev writes_so : Option Packet → Action
    writes_so decoded = writer_action c.e.role.mode asked limit c.e.role.length c.from decoded

    abbrev so : Option Packet → Action
    so decoded = if writes then writes_so decoded else reads_so decoded

    heard : (packet : Packet) → Spells packet c.bytes → DidSo c (so (Some packet))
    heard packet says =
        subst (λ (b : Bool). DidSo c (if b then writes_so (Some packet) else reads_so (Some packet))) f.side
        (at_packet c packet (Waiting asked limit) (own_address c.e.position.last_sent_to c.from f.server) f.stands says)

    refuses_oack : (refusal : Refusal) → DidSo c (refusal_action refusal) → RefusesOack c refusal
    refuses_oack refusal h = search rules

    reader_takes : (answer : Result (List Known) Refusal) → DidSo c (accept_action c.from answer) → ReaderTakes c answer
    reader_takes answer h = search rules

    writer_begins : (terms : Terms) (fits : Bool)
        → DidSo c (if fits then Send terms 1 else Respond (Refuse None FileTooLarge outcomes.TooLarge))
        → WriterBegins c terms fits
    writer_begins terms true h = sends c (Waiting asked limit) f.stands refl terms 1 refl h
    writer_begins terms false h = refuses c (Waiting asked limit) None FileTooLarge outcomes.TooLarge f.stands refl h

    writer_takes : (answer : Result (List Known) Refusal) → DidSo c (begin_with_action c.from c.e.role.length answer)
        → WriterTakes c answer
    writer_takes answer h = search (rules, writer_begins, agreed_terms, nat_lt, refuses_oack)

  -- ---- a client that reads
  -- DATA 1 is stored, by a reader whose options were ignored
  pub first_data_is_stored : FirstDataIsStored sources sinks
  first_data_is_stored c asked limit piece f says fits =
      let terms = default_terms c.from in
      next_row c (Waiting asked limit) f.stands refl terms 0 refl refl refl [] piece says fits refl
      (if_yes (DidSo c) (nat_le (length piece) DEFAULT_BLOCK)
      (receiver_action true c.e.role.mode [] terms 0 (Some (Data 1 piece))) no_answer
      (le-leb (length piece) DEFAULT_BLOCK fits) (heard c false asked limit f (Data 1 piece) says))

  -- an OACK opens a reader, by ACK 0
  pub oack_opens_reader : OackOpensReader sources sinks
  oack_opens_reader c asked limit options f says = reader_takes c _ _ _ f _ (heard c _ _ _ f _ says)

  -- a reader opens by no other packet than OACK and DATA 1
  pub reader_takes_no_other : ReaderTakesNoOther sources sinks
  reader_takes_no_other c asked limit h3 f says unexpected = search rules

  -- ---- a client that writes
  -- ACK 0 sends DATA 1, of a writer whose options were ignored
  pub first_ack_begins : FirstAckBegins sources sinks
  first_ack_begins c asked limit f says =
      search (rules, writer_begins, true, default_terms, nat_lt, heard)

  -- an OACK opens a writer, by DATA 1
  pub oack_opens_writer : OackOpensWriter sources sinks
  oack_opens_writer c asked limit options f says = writer_takes c _ _ _ f _ (heard c _ _ _ f _ says)

  -- a writer opens by no other packet than OACK and ACK 0
  pub writer_takes_no_other : WriterTakesNoOther sources sinks
  writer_takes_no_other c asked limit h3 f says unexpected = search rules

  -- ---- either
  -- an ERROR closes the client
  pub error_closes_waiting : ErrorClosesWaiting sources sinks
  error_closes_waiting c true asked limit code text f says = closes c _ _ f.stands (heard c _ _ _ f _ says)
  error_closes_waiting c false asked limit code text f says = closes c _ _ f.stands (heard c _ _ _ f _ says)

  -- what is no packet closes the client
  pub malformed_closes_waiting : MalformedClosesWaiting sources sinks
  malformed_closes_waiting c h1 asked limit f m = search rules
