-- An open end with the file that it sends or receives, and the view of it.
use Rattle.std.specs.Prelude.{ℕ, not, Bool, true, false, if◌then◌else◌, List, ◌++◌, Option}
use Rattle.std.specs.Prelude.{option_map}
use Rattle.tftp_file.specs.declared.files.Files.{Files}
use Rattle.tftp_file.specs.declared.files.Files.TheVariants.{Source, Sink}
use Rattle.tftp_file.specs.Netascii.{wire_text}
use Rattle.tftp_file.specs.Sink.{Holding}
use Rattle.tftp_ends.specs.declared.phase.Phase.{Phase}
use Rattle.tftp_ends.specs.declared.phase.Phase.TheVariants.{Waiting, Sending, Receiving, Dallying}
use Rattle.tftp_ends.specs.declared.phase.Phase.TheVariants.{Closed}
use Rattle.tftp_ends.specs.End.{EndState, is_sender, is_client, terms_of, number_of, is_complete}
use Rattle.tftp_ends.specs.End.{size_of}
use Rattle.tftp_ends.specs.Step.{Turn, after_turn, with_position}
use Rattle.tftp_rules.specs.Machine.{Endpoint}
use Rattle.tftp_rules.specs.Shows.{EndView}

-- an open end: its role and its position, and the file that it sends or receives
pub record OpenEnd : Type 0 where
  pub address : Endpoint
  pub state : EndState
  -- the path of a server's end
  pub path : List ℕ
  -- the file of a sender, as its host stores it
  pub file : List ℕ
  -- the wire text that a sender sends: that of its file, if the file is known
  pub text : List ℕ
  -- what of it the sender's source has left
  pub left : List ℕ
  -- what a receiver has stored, as its host stores it
  pub stored : List ℕ
  pub committed : Bool
  -- a receiver's next append or commit is to be refused
  pub refuses : Bool
  -- the request that opened an end of the server
  pub request : List ℕ

-- what a receiver's sink holds
abbrev pub holding_of : OpenEnd → Holding
holding_of x = record { bytes = x.stored; committed = x.committed; refuses = x.refuses }

-- the file of an end
abbrev pub files_of : OpenEnd → Files (List ℕ) Holding
files_of x = if is_sender x.state.role.side then Source x.left else Sink (holding_of x)

-- what these files have left of a source, or of another source's bytes
abbrev pub left_in : Files (List ℕ) Holding → List ℕ → List ℕ
left_in (Source left) other = left
left_in (Sink holding) other = other

-- what their sink holds, or another
abbrev pub held_in : Files (List ℕ) Holding → Holding → Holding
held_in (Source left) other = other
held_in (Sink holding) other = holding

-- the end, with these bytes left of its source or held by its sink; the rest is as it was
abbrev pub with_files : OpenEnd → Files (List ℕ) Holding → OpenEnd
with_files x files =
    record x {
      left = left_in files x.left;
      stored = (held_in files (holding_of x)).bytes;
      committed = (held_in files (holding_of x)).committed;
      refuses = (held_in files (holding_of x)).refuses;
    }

-- the end in another state
abbrev pub in_state : EndState → OpenEnd → OpenEnd
in_state state x = record x { state = state }

-- the end in another phase
abbrev pub with_phase : Phase → OpenEnd → OpenEnd
with_phase phase x =
    in_state (with_position (record x.state.position { phase = phase }) x.state) x

-- the end after a step
abbrev pub end_after : OpenEnd → Turn → Files (List ℕ) Holding → OpenEnd
end_after x turn files = with_files (in_state (after_turn x.state turn) x) files

-- neither complete nor closed
abbrev pub goes_on : Phase → Bool
goes_on (Waiting asked limit) = true
goes_on (Sending terms number) = true
goes_on (Receiving terms number) = true
goes_on (Dallying terms number dally) = false
goes_on (Closed terms number complete outcome) = false

-- closed, and not complete
abbrev pub has_failed : Phase → Bool
has_failed (Waiting asked limit) = false
has_failed (Sending terms number) = false
has_failed (Receiving terms number) = false
has_failed (Dallying terms number dally) = false
has_failed (Closed terms number complete outcome) = not complete

-- what a receiver has of its peer's text: what it stored, as wire text, and the text held back
abbrev pub received_text : EndState → List ℕ → List ℕ
received_text e stored =
    if goes_on e.position.phase then wire_text e.role.mode stored ++ e.position.held_back
    else wire_text e.role.mode stored

-- a sender's text, or what a receiver has of its peer's
abbrev pub text_of : OpenEnd → List ℕ
text_of x =
    if is_sender x.state.role.side then x.text
    else received_text x.state x.stored

-- the endpoint of the other end
abbrev pub peer_of : Phase → Option Endpoint
peer_of phase = option_map (λ t. t.peer) (terms_of phase)

-- the view of an open end, also after a step that closed it
abbrev pub open_view : OpenEnd → EndView
open_view x =
    record {
      address = x.address;
      client = is_client x.state.role.side;
      sender = is_sender x.state.role.side;
      mode = x.state.role.mode;
      peer = peer_of x.state.position.phase;
      size = size_of (terms_of x.state.position.phase);
      number = number_of x.state.position.phase;
      complete = is_complete x.state.position.phase;
      failed = has_failed x.state.position.phase;
      text = text_of x;
      request = x.request;
    }
