-- The paths are looked at, each a front of the path that is as long as the root, and nothing is
-- changed.
use Rattle.std.proofs.Common.{◌≤◌, length}
use Rattle.std.specs.String.{string_bytes}
use Rattle.tftp_folder.specs.Inside.{IsInside, StaysInside}
use Rattle.tftp_folder.specs.Leaves.{OnlyLooks}
use Rattle.tftp_folder.proofs.served_folder.ServedFolder.walk_folders.Given as goal

abbrev pub invariant-loop-segment : goal.invariant-loop-segment
invariant-loop-segment g l =
    OnlyLooks (g.L.Looks.log l.fn.looks) (g.L.Looks.log l.looks) × (length (string_bytes l.self.root) ≤ l.end)
    × (IsInside (string_bytes l.self.root) l.target
    → StaysInside (string_bytes l.self.root) (g.L.Looks.log l.fn.looks) (g.L.Looks.log l.looks))
