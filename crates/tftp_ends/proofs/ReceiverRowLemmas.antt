-- The receiver's table. For `receiver_rows` and WaitingRowLemmas.
use Rattle.std.proofs.Common.{rules}
use Rattle.tftp_ends.proofs.Common.{◌≡◌, ◌≢◌, ◌<◌, ℕ, true, false, List, length, Some, refl, arith, eq-eqb, ne_eqb}
use Rattle.tftp_ends.proofs.Common.{lt-ltb, le-ltb, ◌+◌, ◌==◌, ◌&&◌, nat_lt, if◌then◌else◌, Spells, Packet, Data, Oack}
use Rattle.tftp_ends.proofs.Common.{SourceMeaning, SinkMeaning, Action, Respond, Ignore, ResendReply, Receiving, Terms}
use Rattle.tftp_ends.proofs.Common.{packet_action, next_action, Handled, illegal_action}
use Rattle.tftp_wire.specs.declared.options.RawOption.{RawOption}
use Rattle.tftp_ends.specs.declared.outcome.Outcome.TheVariants as outcomes
use Rattle.tftp_ends.specs.Rows.{FromPeer}
use Rattle.tftp_ends.specs.SenderRows.{took_oack}
use Rattle.tftp_ends.specs.ReceiverRows.{LastDataIsAckedAgain, DallyIgnoresOthers, DallyIgnoresMalformed}
use Rattle.tftp_ends.specs.ReceiverRows.{NewestDataIsAckedAgain, OldDataIsNothing, EarlyDataIsIllegal}
use Rattle.tftp_ends.specs.ReceiverRows.{LongDataIsIllegal, BlocksRunOut, NextDataIsStored, ErrorClosesReceiver}
use Rattle.tftp_ends.specs.ReceiverRows.{OackIsAckedAgain, LateOackIsNothing, ReceiverRefusesOthers}
use Rattle.tftp_ends.specs.ReceiverRows.{ReceiverRefusesMalformed}
use Rattle.tftp_ends.proofs.RowLemmas.{DidSo, own_peer, if_yes, if_no, at_packet, does_nothing, closes, refuses}
use Rattle.tftp_ends.proofs.RowLemmas.{acks_again, next_row}

-- a short block is not one too many
pub within : (number size : ℕ) (piece : List ℕ) → (number ≡ 65535 → length piece < size) →
    ((number == 65535) && (length piece == size)) ≡ false
within number size piece h = search rules

module _ {S K : Type 0} (sources : SourceMeaning S) (sinks : SinkMeaning K) where
  -- ---- in dally

  -- in the dally the last DATA again is acknowledged again
  pub last_data_is_acked_again : LastDataIsAckedAgain sources sinks
  last_data_is_acked_again c terms n dally piece f says = search rules

  -- every other packet is ignored there
  pub dally_ignores_others : DallyIgnoresOthers sources sinks
  dally_ignores_others c terms n dally h4 f says unexpected = search rules

  -- and so is what is no packet
  pub dally_ignores_malformed : DallyIgnoresMalformed sources sinks
  dally_ignores_malformed c terms n dally f none = search rules

  -- ---- before
  module _ (c : Handled sources sinks) (terms : Terms) (n : ℕ) (f : FromPeer c (Receiving terms n) terms) where
    heard : (packet : Packet) → Spells packet c.bytes →
        DidSo c (packet_action c.e c.from (Some packet) (Receiving terms n))
    heard packet says = at_packet c packet (Receiving terms n) (own_peer terms.peer c.from f.peer) f.stands says

    abbrev next : ℕ → List ℕ → Action
    next number piece = next_action c.e.role.mode c.e.position.held_back terms number piece

    abbrev later : ℕ → List ℕ → Action
    later number piece = if number == n + 1 then next number piece else illegal_action terms

    abbrev others : ℕ → List ℕ → Action
    others number piece = if nat_lt number n then Respond Ignore else later number piece

    not_newest : (number : ℕ) (piece : List ℕ) → Spells (Data number piece) c.bytes → number ≢ n →
        DidSo c (others number piece)
    not_newest number piece says ne =
        if_no (DidSo c) (number == n) (Respond ResendReply) (others number piece) (ne_eqb number n ne) (heard _ says)

    is_later : (number : ℕ) (piece : List ℕ) → Spells (Data number piece) c.bytes → n < number →
        DidSo c (later number piece)
    is_later number piece says l =
        if_no (DidSo c) (nat_lt number n) (Respond Ignore) (later number piece) (le-ltb number n (omega (arith, l)))
        (not_newest number piece says (λ e. omega (arith, l, e)))

    is_next : (piece : List ℕ) → Spells (Data (n + 1) piece) c.bytes → DidSo c (next (n + 1) piece)
    is_next piece says =
        if_yes (DidSo c) (n + 1 == n + 1) (next (n + 1) piece) (illegal_action terms) (eq-eqb (n + 1) (n + 1) refl)
        (is_later (n + 1) piece says (omega arith))

  -- the newest DATA again is acknowledged again
  pub newest_data_is_acked_again : NewestDataIsAckedAgain sources sinks
  newest_data_is_acked_again c terms n piece f says = search (rules, acks_again, if_yes, eq-eqb, heard)

  -- an older one is ignored
  pub old_data_is_nothing : OldDataIsNothing sources sinks
  old_data_is_nothing c terms n m piece f says l = search rules

  -- one beyond the next is illegal
  pub early_data_is_illegal : EarlyDataIsIllegal sources sinks
  early_data_is_illegal c terms n m piece f says l = search rules

  -- and so is a block longer than agreed
  pub long_data_is_illegal : LongDataIsIllegal sources sinks
  long_data_is_illegal c terms n piece f says l = search rules

  -- after block 65535 no full block is taken
  pub blocks_run_out : BlocksRunOut sources sinks
  blocks_run_out c terms piece f says full =
      search (rules, refuses, if_yes, length, eq-eqb, if_no, nat_lt, illegal_action, le-ltb, is_next)

  -- the next DATA is stored and acknowledged
  pub next_data_is_stored : NextDataIsStored sources sinks
  next_data_is_stored c terms n piece f says fits short =
      search (rules, nat_lt, false, true, lt-ltb, next_row, within, is_next)

  -- an ERROR closes the receiver
  pub error_closes_receiver : ErrorClosesReceiver sources sinks
  error_closes_receiver c terms n code text f says = closes c _ _ f.stands (heard c _ n f _ says)

  took : (c : Handled sources sinks) (terms : Terms) (n : ℕ) (f : FromPeer c (Receiving terms n) terms) →
      took_oack c.e terms ≡ true → (options : List RawOption) → Spells (Oack options) c.bytes →
      DidSo c (if n == 0 then Respond ResendReply else Respond Ignore)
  took c terms n f is options says =
      if_yes (DidSo c) (took_oack c.e terms) (if n == 0 then Respond ResendReply else Respond Ignore)
      (illegal_action terms) is (heard c terms n f (Oack options) says)

  -- an OACK again before the first block is acknowledged again
  pub oack_is_acked_again : OackIsAckedAgain sources sinks
  oack_is_acked_again c terms options f says is = acks_again c _ f.stands (took c _ 0 f is _ says)

  -- a later one is ignored
  pub late_oack_is_nothing : LateOackIsNothing sources sinks
  late_oack_is_nothing c terms n options f says is l =
      does_nothing c
      (if_no (DidSo c) (n == 0) (Respond ResendReply) (Respond Ignore) (ne_eqb n 0 (λ e. omega (arith, l, e)))
      (took c terms n f is options says))

  -- every other packet is illegal
  pub receiver_refuses_others : ReceiverRefusesOthers sources sinks
  receiver_refuses_others c terms n h3 f says unexpected = search rules

  -- and so is what is no packet
  pub receiver_refuses_malformed : ReceiverRefusesMalformed sources sinks
  receiver_refuses_malformed c terms n f m = search rules
