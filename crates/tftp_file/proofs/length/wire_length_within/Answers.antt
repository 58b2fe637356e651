-- Each CR and LF has one more byte.
use Rattle.std.proofs.Common.{rules}
use Rattle.tftp_file.proofs.NetasciiLemmas.{length-netascii}
use Rattle.tftp_file.proofs.length.wire_length_within.Goals as goal

pub returns-in-Netascii : goal.returns-in-Netascii
returns-in-Netascii c = search (rules, length-netascii)
