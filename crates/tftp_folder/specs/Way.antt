-- How a draft got its name (ours).
use Rattle.std.specs.Prelude.{Bool, true, false}
use Rattle.tftp_folder.specs.declared.naming.Way.{Way}
use Rattle.tftp_folder.specs.declared.naming.Way.TheVariants.{Linked, Renamed}

-- by a link
abbrev pub is_link : Way → Bool
is_link Linked = true
is_link Renamed = false
