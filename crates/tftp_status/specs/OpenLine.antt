-- The line of an open transfer in a status file: a comment (ours).
use Rattle.std.specs.Prelude.{ℕ, ◌/◌, List, [], ◌++◌, codes, Option, Some, None}
use Rattle.std.specs.Fmt.{decimal}
use Rattle.tftp_ends.specs.Endpoint.{endpoint_text}
use Rattle.tftp_sockets.specs.declared.entry.OpenTransfer.{OpenTransfer}

-- the length of the file, if it is known
abbrev pub length_text : Option ℕ → List ℕ
length_text (Some length) = codes " of " ++ decimal length
length_text None = []

-- the server's port, the client, its request, the bytes so far of how many, the seconds, and what
-- was sent again. No metric begins so, and neither `HELP` nor `TYPE` stands there
abbrev pub open_text : OpenTransfer → List ℕ
open_text open_one =
    codes "# "
    ++ (decimal open_one.port
    ++ (codes " "
    ++ (endpoint_text open_one.peer
    ++ (codes " "
    ++ (open_one.request.now
    ++ (codes ": "
    ++ (decimal open_one.bytes
    ++ (codes " bytes"
    ++ (length_text open_one.length
    ++ (codes ", "
    ++ (decimal (open_one.millis / 1000)
    ++ (codes " s, " ++ (decimal open_one.again ++ codes " sent again\n")))))))))))))
