-- A step of the transfer is one of the end; its answer fits the room that was reserved for it.
use Rattle.tftp_player.proofs.Common.{length, ap, ◌∙◌, arith, DEFAULT_BLOCK, answer_room}
use Rattle.tftp_player.proofs.ServedLemmas.{served_short}
use Rattle.tftp_player.proofs.server_end.ServerEnd.on_datagram.Goals as goal

pub copied-out-requires-clause-room : goal.copied-out-requires-clause-room
copied-out-requires-clause-room c =
    let s = c.in-Ok-answer.ensures.takes in
    let short = served_short _ _ c.args.self.now.transfer.end _ _ _ _ _ _ _ _ c.requires.kept.known c.requires.kept.files s.steps in
    let lent_so = ap length (c.bytes_of.ensures ∙ s.carries.bytes) in
    let room_is = c.answer_room-room.ensures ∙ ap (answer_room DEFAULT_BLOCK) c.record.ensures in
    omega (arith, short, lent_so, room_is, c.in-Ok.ensures.room)
