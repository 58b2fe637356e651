-- How the ends of a world open: the openings of an end, and the state that the world adds.
use Rattle.std.specs.Prelude.{ℕ, false, List, [], length}
use Rattle.tftp_player.specs.Common.{DEFAULT_BLOCK, Mode, Asked, Known, wire_text, EndState}
use Rattle.tftp_player.specs.Common.{request_port, OpenEnd, Endpoint}
use Rattle.tftp_file.specs.Block.{block}
use Rattle.tftp_rules.specs.EndOpens.{left_at_first}
use Rattle.tftp_player.specs.World.{WorldState, next_port, ip_of}
pub use Rattle.tftp_ends.specs.Opening.{request_of, getting, putting, serving_read, serving_write}
pub use Rattle.tftp_ends.specs.Opening.{MayGet, MayPut}

-- an end as it opens at the next port, for this request and the file at a path, with this text left
abbrev pub opening : WorldState → EndState → List ℕ → List ℕ → List ℕ → List ℕ → OpenEnd
opening w state request path file left =
    record {
      address = record { ip = ip_of state.role.side; port = next_port w };
      state = state;
      path = path;
      file = file;
      text = wire_text state.role.mode file;
      left = left;
      stored = [];
      committed = false;
      refuses = false;
      request = request;
    }

-- a client that reads
abbrev pub reading_client : WorldState → List ℕ → Mode → Asked → OpenEnd
reading_client w name mode asked =
    opening w (getting request_port name mode asked w.limits.max_file w.retries) [] [] []
    (wire_text mode [])

-- a client that writes
abbrev pub writing_client : WorldState → List ℕ → Mode → Asked → List ℕ → OpenEnd
writing_client w name mode asked file =
    opening w
    (putting request_port name mode asked (length (wire_text mode file)) w.limits.max_file
    w.retries)
    [] [] file (wire_text mode file)

-- the server sends a file, for this request
abbrev pub sending_end : WorldState → Endpoint → List ℕ → Mode → List ℕ → List ℕ → List Known
    → OpenEnd
sending_end w peer request mode path file agreed =
    opening w
    (serving_read agreed peer mode (length (wire_text mode file)) w.retries
    (block (wire_text mode file) DEFAULT_BLOCK 1))
    request path file (left_at_first agreed (wire_text mode file))

-- the server receives a file, for this request
abbrev pub receiving_end : WorldState → Endpoint → List ℕ → Mode → List ℕ → List Known → OpenEnd
receiving_end w peer request mode path agreed =
    opening w (serving_write agreed peer mode w.retries) request path [] []
