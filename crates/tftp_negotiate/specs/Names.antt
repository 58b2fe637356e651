-- Sets of known names.
use Rattle.std.specs.Prelude.{Bool, true, false, Option, Some, None}
use Rattle.tftp_negotiate.specs.declared.name.Names.{Names}
use Rattle.tftp_negotiate.specs.declared.name.Name.{Name}
use Rattle.tftp_negotiate.specs.declared.name.Name.TheVariants.{Blksize, Timeout, Tsize}

-- the set has the name
abbrev pub has : Names → Name → Bool
has names Blksize = names.blksize
has names Timeout = names.timeout
has names Tsize = names.tsize

-- there is a name, and the set has it
abbrev pub has_name : Names → Option Name → Bool
has_name names None = false
has_name names (Some name) = has names name

-- the set with this name, if there is one
abbrev pub with_name : Names → Option Name → Names
with_name names None = names
with_name names (Some Blksize) = record names { blksize = true }
with_name names (Some Timeout) = record names { timeout = true }
with_name names (Some Tsize) = record names { tsize = true }
