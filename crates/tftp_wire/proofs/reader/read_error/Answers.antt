-- Bytes after the text of an ERROR are its first fault.
use Rattle.std.proofs.Common.{rules}
use Rattle.std.proofs.lemmas.Bool.{eqb-false}
use Rattle.tftp_wire.proofs.ReadingLemmas.{error_trailing}
use Rattle.tftp_wire.proofs.reader.read_error.Goals as goal

pub returns-then-not-is_empty : goal.returns-then-not-is_empty
returns-then-not-is_empty c = search (rules, error_trailing, eqb-false)
