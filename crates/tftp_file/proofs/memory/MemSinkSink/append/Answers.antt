-- The bytes of the piece that fit are a prefix of it.
use Rattle.std.proofs.Common.{rules}
use Rattle.tftp_file.proofs.MemSinkLemmas.{kept_first}
use Rattle.tftp_file.proofs.memory.MemSinkSink.append.Goals as goal

pub returns-then-kept-bytes-clause-appends : goal.returns-then-kept-bytes-clause-appends
returns-then-kept-bytes-clause-appends c = search (rules, kept_first)
