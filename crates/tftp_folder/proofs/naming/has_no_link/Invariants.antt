-- The paths are looked at, all inside the root, and nothing is changed; what is left are the folders
-- above.
use Rattle.std.proofs.Common.{List}
use denote.Shadow.{shadow}
use denote.Text.{Utf8}
use Rattle.tftp_disk.specs.DiskTrace.{DiskEvent}
use Rattle.tftp_folder.specs.Inside.{IsInside, StaysInside}
use Rattle.tftp_folder.specs.Leaves.{OnlyLooks}
use Rattle.tftp_folder.specs.Opened.{AreFolders}
use Rattle.tftp_folder.proofs.naming.has_no_link.Given as goal

abbrev pub invariant-loop : goal.invariant-loop
invariant-loop g l =
    shadow (Utf8 l.folder) × OnlyLooks (g.L.Looks.log l.fn.looks) (g.L.Looks.log l.looks)
    × ((after : List DiskEvent) → AreFolders l.root l.folder (g.L.Looks.log l.looks) after
    → AreFolders l.root l.fn.folder (g.L.Looks.log l.fn.looks) after)
    × (IsInside l.root l.fn.folder → IsInside l.root l.folder)
    × (IsInside l.root l.fn.folder → StaysInside l.root (g.L.Looks.log l.fn.looks) (g.L.Looks.log l.looks))
