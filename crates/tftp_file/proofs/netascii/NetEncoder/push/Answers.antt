-- The reserved capacity is the length of the wire text.
use Rattle.std.proofs.Common.{arith}
use Rattle.std.proofs.lemmas.Grind.{common_steps}
use Rattle.tftp_file.proofs.NetasciiLemmas.{length-netascii}
use Rattle.tftp_file.proofs.netascii.NetEncoder.push.Goals as goal

pub append_wire-requires : goal.append_wire-requires
append_wire-requires c = grind (arith, common_steps, length-netascii c.args.piece.now)
