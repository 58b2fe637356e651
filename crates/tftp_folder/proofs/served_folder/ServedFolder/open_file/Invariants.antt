-- The paths are looked at, all inside the root, and nothing is changed.
use Rattle.std.proofs.Common.{◌≡◌}
use Rattle.std.specs.String.{string_bytes}
use Rattle.tftp_disk.specs.Changes.{changes}
use Rattle.tftp_folder.specs.Inside.{StaysInside}
use Rattle.tftp_folder.proofs.served_folder.ServedFolder.open_file.Given as goal

abbrev pub invariant-loop : goal.invariant-loop
invariant-loop g l =
    (changes (g.V.Looks.log l.view) ≡ changes (g.V.Looks.log l.fn.view))
    × StaysInside (string_bytes l.self.root) (g.V.Looks.log l.fn.view) (g.V.Looks.log l.view)
