-- The ERROR packets that are sent (RFC 1350, appendix I; RFC 2347, "Negotiation Protocol").
use Rattle.std.specs.Prelude.{ℕ, List, codes}
use Rattle.tftp_wire.specs.declared.packet.Packet.{Packet}
use Rattle.tftp_wire.specs.declared.packet.Packet.TheVariants.{Error}
use Rattle.tftp_ends.specs.declared.error_reply.ErrorReply.{ErrorReply}
use Rattle.tftp_ends.specs.declared.error_reply.ErrorReply.TheVariants.{FileTooLarge, ServerBusy}
use Rattle.tftp_ends.specs.declared.error_reply.ErrorReply.TheVariants.{FileChanged, NotNetascii}
use Rattle.tftp_ends.specs.declared.error_reply.ErrorReply.TheVariants.{FileNotFound}
use Rattle.tftp_ends.specs.declared.error_reply.ErrorReply.TheVariants.{AccessViolation, DiskFull}
use Rattle.tftp_ends.specs.declared.error_reply.ErrorReply.TheVariants.{IllegalOperation}
use Rattle.tftp_ends.specs.declared.error_reply.ErrorReply.TheVariants.{UnknownTransferId}
use Rattle.tftp_ends.specs.declared.error_reply.ErrorReply.TheVariants.{FileExists, OptionRefused}

-- the code
abbrev pub code_of : ErrorReply → ℕ
code_of FileTooLarge = 0
code_of ServerBusy = 0
code_of FileChanged = 0
code_of NotNetascii = 0
code_of FileNotFound = 1
code_of AccessViolation = 2
code_of DiskFull = 3
code_of IllegalOperation = 4
code_of UnknownTransferId = 5
code_of FileExists = 6
code_of OptionRefused = 8

-- the text
abbrev pub text_of : ErrorReply → List ℕ
text_of FileTooLarge = codes "file too large"
text_of ServerBusy = codes "server busy"
text_of FileChanged = codes "file changed"
text_of NotNetascii = codes "not netascii"
text_of FileNotFound = codes "file not found"
text_of AccessViolation = codes "access violation"
text_of DiskFull = codes "disk full"
text_of IllegalOperation = codes "illegal operation"
text_of UnknownTransferId = codes "unknown transfer id"
text_of FileExists = codes "file exists"
text_of OptionRefused = codes "option refused"

-- the packet
abbrev pub error_packet : ErrorReply → Packet
error_packet reply = Error (code_of reply) (text_of reply)
