-- The store is asked to read only what a request names.
-- For Leaving.
use Rattle.tftp_loop.proofs.Common.{◌≡◌, ℕ, Bool, List, Option, Some, subst, ⊤, has_error_opcode, Mode, RawOption}
use Rattle.tftp_loop.proofs.Common.{Packet, Read, Write, Request, Limits, path_of_name, Ask, Reads}
use Rattle.std.proofs.Common.{Ok, rules}
use Rattle.tftp_negotiate.specs.declared.known.Kind.TheVariants as kinds
use Rattle.tftp_loop.proofs.AnsweringEnds.{either}
use Rattle.tftp_server.specs.Port.{asks, by_packet}

-- the packet is a request to read the file at this path, in this mode
pub record AsksToReadAt (decoded : Option Packet) (path : List ℕ) (mode : Mode) : Type 0 where
  pub request : Request
  pub packet : decoded ≡ Some (Read request)
  pub same_path : path_of_name request.name ≡ Ok path
  pub same_mode : request.mode ≡ mode

abbrev IsReadBy : Option Packet → Ask → Type 0
IsReadBy decoded (Reads path mode options) = AsksToReadAt decoded path mode
IsReadBy decoded ask = ⊤

module _ (limits : Limits) (cap count : ℕ) where
  packet_reads : (repeated : Bool) (decoded : Option Packet)
      → IsReadBy decoded (by_packet cap count repeated limits decoded)
  packet_reads repeated (Some (Read r)) = search rules
  packet_reads repeated (Some (Write r)) = search rules
  packet_reads repeated decoded = tt

  -- the store is asked to read only by such a request
  pub reads_by : (repeated : Bool) (bytes : List ℕ) (decoded : Option Packet) (path : List ℕ) (mode : Mode)
      (options : List RawOption) → asks cap count repeated limits bytes decoded ≡ Reads path mode options
      → AsksToReadAt decoded path mode
  reads_by repeated bytes decoded path mode options is =
      subst (IsReadBy decoded) is (either (IsReadBy decoded) (has_error_opcode bytes) tt (packet_reads repeated decoded))
