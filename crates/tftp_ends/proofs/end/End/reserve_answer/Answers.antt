-- The capacity for the action is enough for its answer; where it is refused, there is an answer.
use Rattle.std.proofs.Common.{rules}
use Rattle.tftp_ends.proofs.Common.{arith}
use Rattle.tftp_ends.proofs.Appending.{handled_by, needs_answer, room_is_enough}
use Rattle.tftp_ends.proofs.end.End.reserve_answer.Goals as goal

pub returns-clause-room : goal.returns-clause-room
returns-clause-room c = λ datagram fits.
    let enough =
    room_is_enough c.args.self.now c.args.from c.args.bytes.now c.one_meaning.ensures c.fault_or_packet.ensures.spelled
    c.any_action.result c.any_action.ensures datagram fits in
    omega (arith, enough, c.room.ensures, c.in_ok-reserve.ensures.ok)

pub returns-in_err-reserve-clause-memory : goal.returns-in_err-reserve-clause-memory
returns-in_err-reserve-clause-memory c = search (rules, handled_by, needs_answer)

pub returns-in_err-reserve-clause-why : goal.returns-in_err-reserve-clause-why
returns-in_err-reserve-clause-why c = search rules
