-- An exchange of programs in which a datagram is lost, over files in memory, that the premises of
-- the law on bounded loss admit: a client reads a file of one block, in blocks of 8 bytes, by an
-- OACK (RFC 1350, sections 2 and 6; RFC 2347).
use Rattle.std.specs.Prelude.{ℕ, ◌≡◌, List, Some, [], slice_get, ◌∷◌, true, false, None}
use Rattle.tftp_promises.specs.Common.{Endpoint, Sent, is_complete, Received, Elapsed, Quiet}
use Rattle.tftp_promises.specs.Common.{Watched, Took, Known, Said, Timed, Sink, Empty, Watch}
use Rattle.tftp_promises.specs.Common.{canonical, OneAct, Asked, Slept, Read, request_of}
use Rattle.std.specs.Prelude.{reverse}
use Rattle.tftp_wire.specs.declared.mode.Mode.TheVariants.{Octet}
use Rattle.tftp_negotiate.specs.declared.known.Known.TheVariants.{Blksize}
use Rattle.tftp_file.specs.Memory.{MemSinkState, memory_sink, memory_source}
use Rattle.tftp_ends.specs.Opening.{oack_bytes}
use Rattle.tftp_ends.specs.Step.{ack_bytes, data_bytes}
use Rattle.tftp_store.specs.Memory.{memory_meaning}
use Rattle.tftp_promises.specs.AnyFiles.{ServesClient, client_end, peer_of}
use Rattle.tftp_promises.specs.GivesUp.{WasHeld}
use Rattle.tftp_promises.specs.Joined.{AreJoined}
use Rattle.tftp_promises.specs.Order.{Noted, Programs, requests_at}
use Rattle.tftp_promises.specs.Outlasting.{AreBounded}
use Rattle.tftp_promises.specs.Programs.{ClientProgram, endpoint}

-- ---- the addresses and ports
abbrev pub server_ip : List ℕ
server_ip = 10 ∷ 0 ∷ 0 ∷ 1 ∷ []

abbrev pub client_ip : List ℕ
client_ip = 10 ∷ 0 ∷ 0 ∷ 2 ∷ []

abbrev pub requests : Endpoint
requests = endpoint server_ip 69

-- the server's port of the read, and the client
abbrev pub read_port : Endpoint
read_port = endpoint server_ip 1024

abbrev pub reader : Endpoint
reader = endpoint client_ip 5000

-- ---- the file and the request
abbrev pub read_name : List ℕ
read_name = 97 ∷ []

abbrev pub read_file : List ℕ
read_file = 65 ∷ []

abbrev pub blocks_of_8 : Asked
blocks_of_8 = record { blksize = Some 8; timeout = None; tsize = None }

abbrev pub agreed : List Known
agreed = Blksize 8 ∷ []

abbrev pub read_request : List ℕ
read_request = canonical (Read (request_of read_name Octet blocks_of_8))

-- a watch that started at the reading 0
abbrev pub read_at : ℕ → Watch
read_at time = record { now = time; reading = time }

-- ---- the exchange, the oldest event first: 0 is the server, and 1 reads
abbrev pub exchange : List Noted
exchange =
    (1, Sent 5000 requests read_request)
    ∷ (0, Received 69 reader read_request) ∷ (0, Sent 1024 reader (oack_bytes agreed))
    ∷ (1, Quiet (Slept 1000)) ∷ (1, Received 5000 read_port (oack_bytes agreed))
    ∷ (1, Watched (read_at 10)) ∷ (1, Sent 5000 read_port (ack_bytes 0))
    -- this ACK 0 is lost, and sent again at a timeout
    ∷ (1, Quiet (Slept 990)) ∷ (1, Quiet (Empty 5000)) ∷ (1, Watched (read_at 1000))
    ∷ (1, Elapsed 5000 1000) ∷ (1, Sent 5000 read_port (ack_bytes 0))
    -- the file has one block
    ∷ (0, Received 1024 reader (ack_bytes 0)) ∷ (0, Sent 1024 reader (data_bytes 1 read_file))
    ∷ (1, Quiet (Slept 1000)) ∷ (1, Received 5000 read_port (data_bytes 1 read_file))
    ∷ (1, Watched (read_at 1010)) ∷ (1, Sent 5000 read_port (ack_bytes 1))
    ∷ (0, Received 1024 reader (ack_bytes 1)) ∷ []

-- the acts of the client and of the transfer that serves it, the newest first: the ACK 0 is sent
-- twice, and received once
abbrev pub lossy_acts : List OneAct
lossy_acts =
    (false, Took reader (ack_bytes 1))
    ∷ (true, Said read_port (ack_bytes 1)) ∷ (true, Took read_port (data_bytes 1 read_file))
    ∷ (false, Said reader (data_bytes 1 read_file)) ∷ (false, Took reader (ack_bytes 0))
    ∷ (true, Said read_port (ack_bytes 0)) ∷ (true, Timed) ∷ (true, Said read_port (ack_bytes 0))
    ∷ (true, Took read_port (oack_bytes agreed))
    ∷ (false, Said reader (oack_bytes agreed)) ∷ (true, Said requests read_request) ∷ []

-- these programs noted the exchange, and meet the premises of `a_client_outlasts_loss`, with a
-- limit and a slack of one timeout; both ends are complete, and the client has the file
pub record HasOutlasted
    (programs : Programs memory_meaning memory_source memory_source memory_sink) : Type 0 where
  pub joined : AreJoined programs (reverse exchange)
  pub reads : ClientProgram memory_source memory_sink (requests_at programs)
  pub is_reader : slice_get programs.clients 0 ≡ Some reads
  pub peer : peer_of (client_end programs reads) ≡ Some read_port
  pub serves : ServesClient programs read_port reads
  pub was : WasHeld programs serves.port serves.transfer
  pub bounded : AreBounded programs reads read_port serves was lossy_acts 1 1
  pub has_read : is_complete reads.last.end.position.phase ≡ true
  pub has_sent : is_complete serves.transfer.end.position.phase ≡ true
  pub sink : MemSinkState
  pub is_sink : reads.files ≡ Sink sink
  pub holds : sink.holding.bytes ≡ read_file
  pub committed : sink.holding.committed ≡ true

-- there are such programs
abbrev pub SomeOutlastLoss : Type 0
SomeOutlastLoss =
    (programs : Programs memory_meaning memory_source memory_source memory_sink)
    × HasOutlasted programs
