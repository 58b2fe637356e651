-- The sender's table. For `sender_rows`.
use Rattle.std.proofs.Common.{rules}
use Rattle.tftp_ends.proofs.Common.{ℕ, Bool, false, Some, refl, ap, arith, eq-eqb, lt-ltb, ◌+◌, ◌==◌, ◌||◌, nat_lt}
use Rattle.tftp_ends.proofs.Common.{if◌then◌else◌, Spells, Packet, Ack, Oack, SourceMeaning, SinkMeaning, Action}
use Rattle.tftp_ends.proofs.Common.{Respond, Send, Ignore, Complete, Sending, Terms, packet_action, Handled}
use Rattle.tftp_ends.proofs.Common.{illegal_action}
use Rattle.tftp_ends.specs.declared.outcome.Outcome.TheVariants as outcomes
use Rattle.tftp_ends.specs.Rows.{FromPeer}
use Rattle.tftp_ends.specs.SenderRows.{blocks_of, took_oack, NewestAckSends, LastAckCompletes, OldAckIsNothing}
use Rattle.tftp_ends.specs.SenderRows.{EarlyAckIsIllegal, ErrorClosesSender, OackAgainIsNothing, SenderRefusesOthers}
use Rattle.tftp_ends.specs.SenderRows.{SenderRefusesMalformed}
use Rattle.tftp_ends.proofs.RowLemmas.{DidSo, own_peer, if_yes, at_packet, does_nothing, closes, sends}

module _ {S K : Type 0} (sources : SourceMeaning S) (sinks : SinkMeaning K) where
  module _ (c : Handled sources sinks) (terms : Terms) (n : ℕ) (f : FromPeer c (Sending terms n) terms) where
    heard : (packet : Packet) → Spells packet c.bytes
        → DidSo c (packet_action c.e c.from (Some packet) (Sending terms n))
    heard packet says = at_packet c packet (Sending terms n) (own_peer terms.peer c.from f.peer) f.stands says

    -- an ACK of the newest block, or of another
    abbrev next : Action
    next = if nat_lt n (blocks_of c.e terms) then Send terms (n + 1) else Respond Complete

    abbrev other : ℕ → Action
    other m = if nat_lt m n then Respond Ignore else illegal_action terms

    newest : Spells (Ack n) c.bytes → DidSo c next
    newest says = if_yes (DidSo c) (n == n) next (other n) (eq-eqb n n refl) (heard (Ack n) says)

  -- the ACK of the newest block sends the next
  pub newest_ack_sends : NewestAckSends sources sinks
  newest_ack_sends c terms n f says l =
      sends c (Sending terms n) f.stands refl terms (n + 1)
      (ap (λ (b : Bool). b || false) (lt-ltb n (n + 1) (omega arith)))
      (if_yes (DidSo c) (nat_lt n (blocks_of c.e terms)) (Send terms (n + 1)) (Respond Complete)
      (lt-ltb n (blocks_of c.e terms) l) (newest c terms n f says))

  -- that of the last block completes the sender
  pub last_ack_completes : LastAckCompletes sources sinks
  last_ack_completes c terms n f says is = search rules

  -- an older one is ignored
  pub old_ack_is_nothing : OldAckIsNothing sources sinks
  old_ack_is_nothing c terms n m f says l = search rules

  -- one of a block that was not sent is illegal
  pub early_ack_is_illegal : EarlyAckIsIllegal sources sinks
  early_ack_is_illegal c terms n m f says l = search rules

  -- an ERROR closes the sender
  pub error_closes_sender : ErrorClosesSender sources sinks
  error_closes_sender c terms n code text f says = closes c _ _ f.stands (heard c _ n f _ says)

  -- an OACK is ignored by a client that has accepted one
  pub oack_again_is_nothing : OackAgainIsNothing sources sinks
  oack_again_is_nothing c terms n options f says took =
      does_nothing c
      (if_yes (DidSo c) (took_oack c.e terms) (Respond Ignore) (illegal_action terms) took
      (heard c terms n f (Oack options) says))

  -- every other packet is illegal
  pub sender_refuses_others : SenderRefusesOthers sources sinks
  sender_refuses_others c terms n h3 f says unexpected = search rules

  -- and so is what is no packet
  pub sender_refuses_malformed : SenderRefusesMalformed sources sinks
  sender_refuses_malformed c terms n f m = search rules
