-- The calls on a fetched file are of no other.
use Rattle.tftp_client.proofs.Common.{◌≡◌, List, ◌∷◌, Option, Result, Ok, OnOk, Bool, DiskEvent, FileState, Linked}
use Rattle.tftp_client.proofs.Common.{SyncsFolder, Keeps, KeepsPlace, Paths}
use Rattle.std.proofs.Common.{OnErr, rules}
use Rattle.tftp_disk.specs.declared.disk_file.DiskFolder.{DiskFolder}
use Rattle.tftp_client.specs.Fetched.{KeepsOne, LosesName}

pub then_keeps : (a b c : Paths) (t u v : Bool) (before middle after : List DiskEvent) → KeepsPlace a b t u before middle
    → KeepsPlace b c u v middle after → KeepsPlace a c t v before after
then_keeps a b c t u v before middle after first rest = search rules

-- the file was linked, and then kept one name or the other
pub link_keeps : {F T E : Type 0} (folder : Option (DiskFolder F)) (paths : Paths) (file : FileState)
    (before mid after : List DiskEvent) (r : Result T E) → mid ≡ Linked file paths.part paths.local (Ok tt) ∷ before
    → OnOk r (KeepsOne (SyncsFolder folder) paths mid after) → OnErr r (LosesName paths mid after)
    → Keeps paths before after
link_keeps folder paths file before mid after r is ok err = search rules
