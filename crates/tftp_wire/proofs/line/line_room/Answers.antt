-- A line has at most three bytes for each byte of its packet, and forty.
use Rattle.std.proofs.Common.{arith, rules}
use Rattle.tftp_wire.proofs.LineLemmas.{read_fits, write_fits, data_fits, ack_fits, error_fits, oack_fits}
use Rattle.tftp_wire.proofs.line.line_room.Goals as goal

pub returns-in-Read : goal.returns-in-Read
returns-in-Read c = search (rules, read_fits)

pub returns-in-Write : goal.returns-in-Write
returns-in-Write c = search (rules, write_fits)

pub returns-in-Error : goal.returns-in-Error
returns-in-Error c = search (rules, error_fits)

pub returns-in-Oack : goal.returns-in-Oack
returns-in-Oack c = search (rules, oack_fits)

pub returns-in-Data : goal.returns-in-Data
returns-in-Data c = search (rules, data_fits)

pub returns-in-Ack : goal.returns-in-Ack
returns-in-Ack c = rw c.in-Ack.is (omega (arith, ack_fits c.in-Ack.block (omega arith)))
