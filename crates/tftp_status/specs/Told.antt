-- What was noted at a device that reports (ours).
use Rattle.std.specs.Prelude.{List, Option, None, Some}
use Rattle.tftp_sockets.specs.declared.entry.Entry.{Entry}
use Rattle.tftp_status.specs.StatusEvent.{told_in}
use Rattle.tftp_status.specs.StatusFile.{Status}

-- all entries, the newest first, if it reports
abbrev pub told_to : Option Status → Option (List Entry)
told_to None = None
told_to (Some status) = Some (told_in status.events)
