-- The reserved capacity is enough for the encoded text.
use Rattle.std.proofs.Common.{rules}
use Rattle.tftp_file.proofs.NetasciiLength.{length-netascii_left}
use Rattle.tftp_file.proofs.memory.MemSourceSource.fill.Goals as goal

pub encode-encoded-requires : goal.encode-encoded-requires
encode-encoded-requires c = search (rules, length-netascii_left)
