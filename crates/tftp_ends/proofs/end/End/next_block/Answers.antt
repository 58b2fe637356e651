-- A DATA from the peer of a receiver.
use Rattle.std.proofs.Common.{rules as std_rules}
use Rattle.tftp_ends.proofs.Common.{◌≡◌, ◌∙◌, sym, subst, false, Data, Some, Store, Receiving, BytesFit, is_wrong_peer}
use Rattle.tftp_ends.proofs.Common.{terms_of}
use Rattle.tftp_ends.specs.Receiver.{data_action}
use Rattle.tftp_ends.specs.Sound.{IsSound}
use Rattle.tftp_ends.proofs.ActionLemmas.{data_acts, data_acts_fit}
use Rattle.tftp_ends.proofs.end.End.next_block.Goals as goal

module _ (c : goal.In-Store) where
  phase_is : c.args.self.now.position.phase ≡ Receiving c.in-Receiving.agreed c.in-Receiving.number
  phase_is = search std_rules

  does : Store c.in-Store.terms c.in-Store.next
      ≡ data_action c.args.self.now.role.mode c.args.self.now.position.held_back c.in-Receiving.agreed
      c.in-Receiving.number c.in-Some.block c.in-Some.piece.now
  does = search std_rules

pub returns-in-Store-clause-action : goal.returns-in-Store-clause-action
returns-in-Store-clause-action c =
    let peer : is_wrong_peer (terms_of c.args.self.now.position.phase) c.args.self.now.position.last_sent_to c.args.from
    ≡ false = search std_rules in
    let acts = data_acts c.args.self.now c.args.from c.args.bytes.now _ _ c.in-Some.block c.in-Some.piece.now
    (phase_is c) peer in
    (Some (Data c.in-Some.block c.in-Some.piece.now), c.in-Some.ensures.found, does c ∙ sym acts)

pub returns-in-Store-clause-bytes : goal.returns-in-Store-clause-bytes
returns-in-Store-clause-bytes c =
    let sound : IsSound c.args.self.now = search std_rules in
    subst (λ a. BytesFit c.args.self.now c.args.bytes.now a) (sym (does c)) (data_acts_fit _ c.args.from _ _ _ _ _ sound
    (phase_is c) c.in-Some.ensures.found)
