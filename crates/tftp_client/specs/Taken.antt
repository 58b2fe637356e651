-- What is appended to a client's file (own).
use Rattle.std.specs.Prelude.{false, []}
use Rattle.tftp_file.specs.Sink.{Holding}

-- the content of a new file
abbrev pub nothing : Holding
nothing = record { bytes = []; committed = false; refuses = false }
