-- Each CR and LF has one more byte.
use Rattle.std.proofs.Common.{rules}
use Rattle.tftp_file.proofs.NetasciiLemmas.{length-netascii}
use Rattle.tftp_file.proofs.length.wire_count.Goals as goal

pub returns-in-Netascii-clause-value : goal.returns-in-Netascii-clause-value
returns-in-Netascii-clause-value c = search (rules, length-netascii)
