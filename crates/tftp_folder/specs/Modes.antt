-- The permissions of files (ours).
use Rattle.std.specs.Prelude.{ℕ, ◌≡◌, ⊤, Bool, true, false, ◌&&◌, nat_le, bit_and, List, []}
use Rattle.std.specs.Prelude.{◌∷◌, Result, Ok, Err}
use Rattle.std.specs.declared.io.Error.{Error}
use Rattle.tftp_disk.specs.DiskTrace.{DiskEvent}
use Rattle.tftp_disk.specs.DiskTrace.DiskEvent.{Examined, Mode_set}
use Rattle.tftp_disk.specs.declared.found.Found.{Found}

-- the permissions in a mode: its lowest nine bits, by which its user, its group and others may
-- read, write and run the file
abbrev pub permissions : ℕ → ℕ
permissions mode = bit_and mode 511

-- each of these modes is permissions alone: no other bit is set
abbrev pub are_permissions : List ℕ → Bool
are_permissions [] = true
are_permissions (mode ∷ modes) = nat_le mode 511 && are_permissions modes

-- an open file has the permissions of another: it had them, or was given them, or could not be
abbrev pub TakesMode : Found → List DiskEvent → Result Bool Error → List DiskEvent → Type 0
TakesMode replaced before (Ok false) after =
    (found : Found) × (after ≡ Examined (Ok found) ∷ before)
    × (permissions found.mode ≡ permissions replaced.mode)
TakesMode replaced before (Ok true) after =
    (found : Found)
    × (after ≡ Mode_set (permissions replaced.mode) (Ok tt) ∷ Examined (Ok found) ∷ before)
TakesMode replaced before (Err error) after = ⊤
