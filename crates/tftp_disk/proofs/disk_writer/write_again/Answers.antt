-- A last write that wrote no byte is a refused one.
use Rattle.std.proofs.Common.{◌≡◌, ℕ, List, ◌∷◌, Result, IfOk, rules}
use Rattle.std.specs.declared.io.Error.{Error}
use Rattle.tftp_disk.specs.Calls.{write_event}
use Rattle.tftp_disk.specs.DiskTrace.{DiskEvent}
use Rattle.tftp_disk.specs.DiskWriter.{IsRefused}
use Rattle.tftp_disk.proofs.disk_writer.write_again.Goals as goal

wrote_none : (answer : Result ℕ Error) (bytes : List ℕ) (before after : List DiskEvent)
    → after ≡ write_event answer bytes ∷ before → IfOk answer (λ count. count ≡ 0 → IsRefused after)
wrote_none answer bytes before after is = search rules

pub returns-clause-none : goal.returns-clause-none
returns-clause-none g c = search (rules, wrote_none)
