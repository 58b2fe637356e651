-- The bytes are name bytes exactly if those from the index on are.
use Rattle.std.proofs.Common.{◌≡◌, drop}
use Rattle.std.specs.List.{list_all}
use Rattle.tftp_file.specs.Path.{is_name_byte}
use Rattle.tftp_file.proofs.path.has_name_bytes.Given as goal

abbrev pub invariant-loop-byte : goal.invariant-loop-byte
invariant-loop-byte l = list_all is_name_byte (drop l.byte-index l.part) ≡ list_all is_name_byte l.part
