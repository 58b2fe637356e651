-- The faults that a disk error may become (ours).
use Rattle.std.specs.Prelude.{◌≡◌, ◌⊎◌, Bool, true, false}
use Rattle.std.specs.declared.io.ErrorKind.{ErrorKind}
use Rattle.std.specs.declared.io.ErrorKind.TheVariants as kinds
use Rattle.tftp_file.specs.declared.fault.StoreFault.{StoreFault}
use Rattle.tftp_file.specs.declared.fault.StoreFault.TheVariants.{Missing, Exists, Full, Io, Memory}
use Rattle.tftp_disk.specs.declared.existing.Existing.{Existing}
use Rattle.tftp_disk.specs.declared.existing.Existing.TheVariants.{Refused, Replaced}

-- whether a file that has the name already may be replaced
abbrev pub is_replaced : Existing → Bool
is_replaced Refused = false
is_replaced Replaced = true

-- no file is there, by the kind of an error
abbrev pub IsNotThere : ErrorKind → Type 0
IsNotThere kind = (kind ≡ kinds.NotFound) ⊎ (kind ≡ kinds.NotADirectory)

-- the system has no space for what was written, by the kind of an error
abbrev pub IsNoSpace : ErrorKind → Type 0
IsNoSpace kind =
    (kind ≡ kinds.StorageFull) ⊎ ((kind ≡ kinds.QuotaExceeded)
    ⊎ ((kind ≡ kinds.FileTooLarge) ⊎ (kind ≡ kinds.OutOfMemory)))

-- at the opening of a file: it is missing, it may not be served, or out of memory
abbrev pub MayNotOpen : StoreFault → Type 0
MayNotOpen Missing = Unit {0}
MayNotOpen Exists = ⊥
MayNotOpen Full = ⊥
MayNotOpen Io = Unit {0}
MayNotOpen Memory = Unit {0}

-- at a write: the disk is full, or the system failed
abbrev pub MayNotStore : StoreFault → Type 0
MayNotStore Missing = ⊥
MayNotStore Exists = ⊥
MayNotStore Full = Unit {0}
MayNotStore Io = Unit {0}
MayNotStore Memory = ⊥

-- at the beginning of a draft: an existing file is a fault only if it is not to be replaced
abbrev pub MayNotBegin : Bool → StoreFault → Type 0
MayNotBegin replace Missing = ⊥
MayNotBegin replace Exists = replace ≡ false
MayNotBegin replace Full = Unit {0}
MayNotBegin replace Io = Unit {0}
MayNotBegin replace Memory = Unit {0}

-- at naming a draft: an existing file is a fault only if it is not to be replaced
abbrev pub MayNotName : Bool → StoreFault → Type 0
MayNotName replace Missing = ⊥
MayNotName replace Exists = replace ≡ false
MayNotName replace Full = Unit {0}
MayNotName replace Io = Unit {0}
MayNotName replace Memory = ⊥
