-- The datagram that the end lends fits the reserved capacity, and a waiting client agrees to no larger block.
use Rattle.tftp_player.proofs.Common.{length, sym, subst, ap, ◌∙◌, arith, EndState, answer_room, AgreesWithin}
use Rattle.tftp_player.proofs.RoomLemmas.{answer_short, step_agrees}
use Rattle.tftp_player.proofs.client.Client.on_datagram.Goals as goal
use Rattle.tftp_player.proofs.client.Client.on_datagram.Goals.{in-Ok-handle_datagram, in-Err-Memory}

pub copied-out-requires-clause-room : goal.copied-out-requires-clause-room
copied-out-requires-clause-room c =
    let end = c.self.inside.end in
    let most = c.self.inside.max_block in
    let s = c.in-Ok-handle_datagram.ensures.steps in
    let short = answer_short _ _ _ _ end most _ _ s.0 c.self.invariant.1 c.self.invariant.0 s.1 in
    let lent_so = ap length (c.bytes_of.ensures ∙ s.2.bytes) in
    let room_is = c.answer_room-room.ensures ∙ ap (answer_room most) c.record.ensures.record in
    omega (arith, short, lent_so, room_is, c.in-Ok.ensures.room)

pub invariant_of-self : goal.invariant_of-self
invariant_of-self c = (
  c.handle_datagram.ensures.files,
  elim c.match-handle_datagram.branch [
    | in-Ok-handle_datagram w ↦
        let s = w.in-Ok-handle_datagram.ensures.steps in
        subst (λ (e : EndState). AgreesWithin c.self.inside.max_block e.position.phase) (sym s.2.state)
        (step_agrees c.self.inside.max_block _ _ _ _ c.self.inside.end _ _ s.0 c.self.invariant.1 s.1)
    | in-Err-Memory w ↦
        subst (λ (e : EndState). AgreesWithin c.self.inside.max_block e.position.phase)
        (sym w.in-Err-Memory.ensures.err.0) c.self.invariant.1
  ],
)
