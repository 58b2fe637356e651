-- How an open end stands after it handled a datagram.
use Rattle.tftp_lives.proofs.Common.{◌≡◌, ℕ, true, inl, false, ◌∷◌, Option, refl, ◌&&◌, Packet, if_either}
use Rattle.tftp_lives.proofs.Common.{is_wrong_peer, datagram_action, same_address, Decodes, terms_of, Respond, Ignore}
use Rattle.tftp_lives.proofs.Common.{WrongPeer, Phase, Receiving, Sending, Waiting, Dallying, Terms, Took, newest}
use Rattle.tftp_lives.proofs.Common.{rules, packet_action}
use Rattle.std.specs.Prelude.{is_none}
use Rattle.tftp_wire.specs.Reading.{has_error_opcode}
use Rattle.tftp_ends.specs.declared.phase.Dally.{Dally}
use Rattle.tftp_ends.specs.Action.{garbled_response}
use Rattle.tftp_ends.specs.Receiver.{dally_response}
use Rattle.tftp_lives.proofs.Spelled.{not_false, of_peer}
use Rattle.tftp_lives.proofs.Stands.{IsCopied, Knows, Stands, Over}
use Rattle.tftp_lives.proofs.StandActions.{Handling, Going, answers_wrong_peer, at, gone, ignores}
use Rattle.tftp_lives.proofs.StandClients.{asks_other, waiting_goes}
use Rattle.tftp_lives.proofs.StandPeers.{other_stays, receiver_goes, sender_goes}
use Rattle.tftp_ends.specs.declared.outcome.Outcome.TheVariants as outcomes

module _ {S K : Type 0} (v : Handling S K) where
  open v use {e0, from, bytes, acts}

  -- ---- any datagram, by the tests of its sender and of a malformed ERROR
  tested : (p : Phase) (decoded : Option Packet) →
      (is_wrong_peer (terms_of p) e0.position.last_sent_to from ≡ true → Stands (Took from bytes ∷ acts) (at v p)) →
      Going v p (Respond (garbled_response p)) →
      (is_wrong_peer (terms_of p) e0.position.last_sent_to from ≡ false →
      Going v p (packet_action (at v p) from decoded p)) →
      Going v p (datagram_action (at v p) from bytes decoded)
  tested p decoded other garbled packet =
      let P = Going v p in
      if_either P _ _ _ (λ wrong. if_either P (has_error_opcode bytes) (Respond Ignore) (Respond WrongPeer)
      (λ _. ignores v p (other wrong)) (λ _. answers_wrong_peer v p (other wrong)))
      (λ right. if_either P (has_error_opcode bytes && is_none decoded) (Respond (garbled_response p))
      (packet_action (at v p) from decoded p) (λ _. garbled) (λ _. packet right))

  pub knows_goes : (p : Phase) → Knows acts e0.role e0.position.last_sent_to e0.position.last_sent p →
      IsCopied acts (newest e0) e0.role.retries e0.position.retries_left 0 → (decoded : Option Packet) →
      Decodes bytes decoded →
      Going v p (datagram_action (at v p) from bytes decoded)
  knows_goes (Waiting asked limit) k c decoded d =
      tested (Waiting asked limit) decoded (asks_other v asked limit k.0 k.1 k.2 c)
      (gone v (Waiting asked limit) outcomes.Illegal tt)
      (λ right. waiting_goes v asked limit k.0 k.1 k.2 c
      (not_false (same_address e0.position.last_sent_to from) right) decoded d)
  knows_goes (Sending t n) g c decoded d =
      tested (Sending t n) decoded (other_stays v (Sending t n) t n true (λ done h. h) g c)
      (gone v (Sending t n) outcomes.Illegal tt)
      (λ right. sender_goes v t n g c (of_peer t e0.position.last_sent_to from right) decoded d)
  knows_goes (Receiving t n) g c decoded d =
      tested (Receiving t n) decoded (other_stays v (Receiving t n) t n false (λ done h. h) g c)
      (gone v (Receiving t n) outcomes.Illegal tt)
      (λ right. receiver_goes v t n g c (of_peer t e0.position.last_sent_to from right) decoded d)
  knows_goes p k c decoded d = absurd k

  -- ---- an end that is complete stays so
  dally_goes : (t : Terms) (n : ℕ) (dally : Dally) (decoded : Option Packet) →
      Going v (Dallying t n dally) (Respond (dally_response n decoded))
  dally_goes t n dally decoded = search rules

  pub dallies_on : (t : Terms) (n : ℕ) (dally : Dally) (decoded : Option Packet) →
      Going v (Dallying t n dally) (datagram_action (at v (Dallying t n dally)) from bytes decoded)
  dallies_on t n dally decoded =
      tested (Dallying t n dally) decoded (λ _. Over (inl refl)) (ignores v (Dallying t n dally) (Over (inl refl)))
      (λ _. dally_goes t n dally decoded)
