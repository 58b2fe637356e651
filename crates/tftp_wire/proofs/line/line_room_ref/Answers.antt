-- A line has at most three bytes for each byte of its packet, and forty.
use Rattle.std.proofs.Common.{arith, length, ◌≤◌, ◌+◌, ◌*◌, rules}
use Rattle.tftp_wire.specs.Borrowed.{owned, owned_request}
use Rattle.tftp_wire.specs.Line.{line}
use Rattle.tftp_wire.specs.Spelling.{canonical}
use Rattle.tftp_wire.specs.declared.packet.Packet.TheVariants.{Read}
use Rattle.tftp_wire.proofs.LineLemmas.{read_fits, write_fits, data_fits, ack_fits, error_fits, oack_fits}
use Rattle.tftp_wire.proofs.line.line_room_ref.Goals as goal

pub returns-in-Read : goal.returns-in-Read
returns-in-Read c =
    let r = owned_request c.in-Read.request in
    let fits : length (line (owned c.args.packet.now)) ≤ 3 * length (canonical (Read r)) + 40 =
    rw c.in-Read.is (read_fits r) in
    omega (arith, fits, c.request_len_ref.ensures, c.shown_room.ensures)

pub returns-in-Write : goal.returns-in-Write
returns-in-Write c =
    let r = owned_request c.in-Write.request in
    let fits : length (line (owned c.args.packet.now)) ≤ 3 * length (canonical (Read r)) + 40 =
    rw c.in-Write.is (write_fits r) in
    omega (arith, fits, c.request_len_ref-in-Write.ensures, c.shown_room-in-Write.ensures)

pub returns-in-Error : goal.returns-in-Error
returns-in-Error c = search (rules, error_fits)

pub returns-in-Oack : goal.returns-in-Oack
returns-in-Oack c = search (rules, oack_fits)

pub returns-in-Data : goal.returns-in-Data
returns-in-Data c = search (rules, data_fits)

pub returns-in-Ack : goal.returns-in-Ack
returns-in-Ack c = rw c.in-Ack.is (omega (arith, ack_fits c.in-Ack.block (omega arith)))
