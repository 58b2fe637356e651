-- What a device was told of its server, for whoever counts it.
use Rattle.std.specs.Prelude.{List, ◌∷◌, Option, None, Some}
use Rattle.tftp_sockets.specs.declared.entry.Entry.{Entry}

-- what was told, if the device counts, with one entry more: the newest is the first
abbrev pub and_told : Entry → Option (List Entry) → Option (List Entry)
and_told entry None = None
and_told entry (Some entries) = Some (entry ∷ entries)
