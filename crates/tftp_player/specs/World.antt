-- The world: all that was sent, the server's files, and every end that was ever opened.
use Rattle.std.specs.Prelude.{ℕ, ◌+◌, ◌&&◌, not, Bool, true, false, if◌then◌else◌, List, [], ◌∷◌}
use Rattle.std.specs.Prelude.{◌++◌, length, slice_set, Option, Some, None}
use Rattle.std.specs.BTreeMap.{is_at}
use Rattle.std.specs.Cmp.Lexicographic.{slice_cmp}
use Rattle.std.specs.Map.{lookup}
use Rattle.std.specs.Ordering.{nat_cmp}
use Rattle.tftp_player.specs.Common.{Mode, Config, Files, wire_text, Holding, Outcome, Record, Side}
use Rattle.tftp_player.specs.Common.{is_sender, is_client, outcome_of, Turn, Reply, server_ip}
use Rattle.tftp_player.specs.Common.{client_ip, OpenEnd, end_after, EndView, Datagram, Report}
use Rattle.tftp_player.specs.Common.{Endpoint}
use Rattle.tftp_negotiate.specs.declared.limits.Limits.{Limits}
use Rattle.tftp_ends.specs.End.{record_of}
use Rattle.tftp_rules.specs.OpenEnds.{text_of}

-- a file of the server: its path and its bytes
abbrev pub StoredFile : Type 0
StoredFile = List ℕ × List ℕ

-- the file under a path
abbrev pub file_at : List StoredFile → List ℕ → Option (List ℕ)
file_at files path = lookup (is_at (slice_cmp nat_cmp path)) files

-- the file in the way of a write: none if it may be replaced
abbrev pub in_the_way : Bool → Option (List ℕ) → Option (List ℕ)
in_the_way true there = None
in_the_way false there = there

-- a closed end: its endpoint, its file with its wire text or what it stored, and its record
pub record ClosedEnd : Type 0 where
  pub address : Endpoint
  pub mode : Mode
  pub path : List ℕ
  pub file : List ℕ
  pub text : List ℕ
  pub stored : List ℕ
  pub committed : Bool
  pub recorded : Record

-- an end that was ever opened
pub data WorldEnd : Type 0 where
  Open_end : OpenEnd → WorldEnd
  Closed_end : ClosedEnd → WorldEnd

-- its record
abbrev pub end_record : WorldEnd → Record
end_record (Open_end x) = record_of x.state
end_record (Closed_end x) = x.recorded

-- its endpoint
abbrev pub end_address : WorldEnd → Endpoint
end_address (Open_end x) = x.address
end_address (Closed_end x) = x.address

-- the mode of its transfer
abbrev pub end_mode : WorldEnd → Mode
end_mode (Open_end x) = x.state.role.mode
end_mode (Closed_end x) = x.mode

-- the path of a server's end
abbrev pub end_path : WorldEnd → List ℕ
end_path (Open_end x) = x.path
end_path (Closed_end x) = x.path

-- the file of a sender
abbrev pub end_file : WorldEnd → List ℕ
end_file (Open_end x) = x.file
end_file (Closed_end x) = x.file

-- the wire text of that file
abbrev pub end_wire : WorldEnd → List ℕ
end_wire (Open_end x) = x.text
end_wire (Closed_end x) = x.text

-- what a receiver has stored
abbrev pub end_stored : WorldEnd → List ℕ
end_stored (Open_end x) = x.stored
end_stored (Closed_end x) = x.stored

-- whether that is committed
abbrev pub end_committed : WorldEnd → Bool
end_committed (Open_end x) = x.committed
end_committed (Closed_end x) = x.committed

-- it handles no more events
abbrev pub is_closed : WorldEnd → Bool
is_closed (Open_end x) = false
is_closed (Closed_end x) = true

-- a world; the end at index k has port 1024 + k
pub record WorldState : Type 0 where
  -- all that was ever sent
  pub sent : List Datagram
  pub files : List StoredFile
  -- every end that was ever opened, in order of opening
  pub ends : List WorldEnd
  -- the limits of both hosts, and the retries of every end
  pub limits : Limits
  pub retries : ℕ
  -- the server's limit of transfers
  pub cap : ℕ
  -- a write may replace an existing file
  pub overwrite : Bool

-- a world in which nothing has happened
abbrev pub new_world : List StoredFile → Config → WorldState
new_world files config =
    record {
      sent = [];
      files = files;
      ends = [];
      limits = config.limits;
      retries = config.retries;
      cap = config.cap;
      overwrite = config.overwrite;
    }

-- the port of the next end
abbrev pub next_port : WorldState → ℕ
next_port w = 1024 + length w.ends

-- the address of the host of that side
abbrev pub ip_of : Side → List ℕ
ip_of side = if is_client side then client_ip else server_ip

abbrev pub datagram : Endpoint → Endpoint → List ℕ → Datagram
datagram from to bytes = record { from = from; to = to; bytes = bytes }

-- the datagram of a reply, from there
abbrev pub replied : Endpoint → Option Reply → List Datagram
replied from None = []
replied from (Some reply) = datagram from reply.to reply.bytes ∷ []

-- the record of an end that closes, with the state that remains
abbrev pub closed_end : OpenEnd → ClosedEnd
closed_end x =
    record {
      address = x.address;
      mode = x.state.role.mode;
      path = x.path;
      file = x.file;
      text = x.text;
      stored = x.stored;
      committed = x.committed;
      recorded = record_of x.state;
    }

-- an end, closed if it has an outcome
abbrev pub by_outcome : Option Outcome → OpenEnd → WorldEnd
by_outcome None x = Open_end x
by_outcome (Some outcome) x = Closed_end (closed_end x)

-- the end after a step: open, or closed with its record
abbrev pub standing : OpenEnd → WorldEnd
standing x = by_outcome (outcome_of x.state.position.phase) x

-- the step has committed what the end stored
abbrev pub has_committed : OpenEnd → OpenEnd → Bool
has_committed x y = not x.committed && y.committed

-- the world after a step of the end x at index k
abbrev pub world_after : WorldState → ℕ → OpenEnd → Turn → Files (List ℕ) Holding → List StoredFile
    → WorldState
world_after w k x turn held files =
    record w {
      sent = w.sent ++ replied x.address turn.reply;
      files = files;
      ends = slice_set w.ends k (standing (end_after x turn held));
    }

-- the index of the datagram that was sent, if any
abbrev pub added_at : WorldState → Option Reply → Option ℕ
added_at w None = None
added_at w (Some reply) = Some (length w.sent)

-- the port, and how the end closed, if it did
abbrev pub closed_at : Endpoint → Option Outcome → Option (ℕ × Outcome)
closed_at at None = None
closed_at at (Some outcome) = Some (at.port, outcome)

-- the report of a step of an open end
abbrev pub report_of : WorldState → OpenEnd → Turn → Report
report_of w x turn =
    record {
      added = added_at w turn.reply;
      closed = closed_at x.address (outcome_of turn.position.phase);
    }

-- nothing was sent, and no end closed
abbrev pub no_report : Report
no_report = record { added = None; closed = None }

-- the world after an end opened and sent its first datagram
abbrev pub opened_in : WorldState → OpenEnd → WorldState
opened_in w x =
    record w {
      sent = w.sent
          ++ datagram x.address x.state.position.last_sent_to x.state.position.last_sent ∷ [];
      ends = w.ends ++ Open_end x ∷ [];
    }

-- a datagram was sent, and no end changed
abbrev pub said_in : WorldState → Datagram → WorldState
said_in w d = record w { sent = w.sent ++ d ∷ [] }

-- the next datagram was sent, and no end closed
abbrev pub sent_report : WorldState → Report
sent_report w = record { added = Some (length w.sent); closed = None }

-- the same of a closed end, which holds back no text
abbrev pub closed_text : ClosedEnd → List ℕ
closed_text x =
    if is_sender x.recorded.side then x.text else wire_text x.mode x.stored

abbrev pub end_text : WorldEnd → List ℕ
end_text (Open_end x) = text_of x
end_text (Closed_end x) = closed_text x

-- the request that opened an open end of the server
abbrev pub end_request : WorldEnd → List ℕ
end_request (Open_end x) = x.request
end_request (Closed_end x) = []

-- the view of an end for the machine: it has failed if it is closed and not complete
abbrev pub view_of_end : WorldEnd → EndView
view_of_end x =
    record {
      address = end_address x;
      client = is_client (end_record x).side;
      sender = is_sender (end_record x).side;
      mode = end_mode x;
      peer = (end_record x).peer;
      size = (end_record x).size;
      number = (end_record x).number;
      complete = (end_record x).complete;
      failed = is_closed x && not (end_record x).complete;
      text = end_text x;
      request = end_request x;
    }
