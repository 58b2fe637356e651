-- Why a transfer failed, as the second line on standard error (own).
use Rattle.std.specs.Prelude.{ℕ, List, [], ◌++◌, codes, Option, Some, None, string_bytes}
use Rattle.std.specs.Prelude.{if◌then◌else◌}
use Rattle.std.specs.Str.{bytes_eq}
use Rattle.tftp_ends.specs.Endpoint.{endpoint_text}
use Rattle.tftp_lines.specs.Reason.{reason_text}
use Rattle.tftp_client.specs.declared.cause.Cause.{Cause}
use Rattle.tftp_client.specs.declared.cause.Cause.TheVariants as causes
use Rattle.tftp_client.specs.declared.transfer.Job.{Job}
use Rattle.tftp_client.specs.LocalError.{local_error_text}

-- what to try after an ERROR with these words, where this block size was requested
abbrev pub hint_text : List ℕ → Option ℕ → List ℕ
hint_text words (Some size) = []
hint_text words None =
    if bytes_eq words (codes "file too large") then codes "; try --blksize 1428" else []

-- a line on this: a path or an address
abbrev pub line_on : List ℕ → List ℕ → List ℕ
line_on about words = codes "tftp: " ++ (about ++ (codes ": " ++ words))

-- the line, without its end
abbrev pub cause_text : Job → Cause → List ℕ
cause_text job (causes.File error) = line_on job.local.now (local_error_text error)
cause_text job (causes.Socket reason) = codes "tftp: no socket: " ++ reason_text reason
cause_text job (causes.Server words) =
    codes "tftp: the server says: "
    ++ (string_bytes words ++ hint_text (string_bytes words) job.asked.blksize)
cause_text job (causes.NoPacket line) =
    line_on (endpoint_text job.server) (codes "sent what no server may send: " ++ string_bytes line)
cause_text job (causes.Peer words) = line_on (endpoint_text job.server) words.now
cause_text job (causes.Unsent reason) =
    line_on (endpoint_text job.server) (reason_text reason)
cause_text job (causes.Local words) = line_on job.local.now words.now
cause_text job (causes.Remote words) = line_on job.name.now words.now
cause_text job causes.Request =
    codes "tftp: the name is empty, or the request longer than 512 bytes"
