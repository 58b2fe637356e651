-- A conversation as the state of a client.
use Rattle.std.specs.Prelude.{ℕ, ◌≡◌, ◌≤◌, List, [], ◌∷◌}
use Rattle.tftp_client.specs.declared.transfer.conversation.Conversation.{Conversation}
use Rattle.tftp_client.specs.Converses.{IsOpen, State, deadline_at}
use Rattle.tftp_sockets.specs.Trace.{SocketEvent}

-- every address of this host
abbrev pub any_address : List ℕ
any_address = 0 ∷ 0 ∷ 0 ∷ 0 ∷ []

-- the state of a client whose program has this trace
abbrev pub state_of : Conversation → List SocketEvent → State
state_of conversation events =
    record {
      end = conversation.end;
      now = conversation.watch.now;
      reading = conversation.watch.reading;
      deadline = conversation.deadline;
      backoff = conversation.backoff;
      events = events;
    }

-- if its end is open, the conversation may wait: it is not due for a timeout, unless its wait for
-- one began at this moment
abbrev pub IsReady : Conversation → Type 0
IsReady conversation =
    IsOpen conversation.end → conversation.deadline ≤ conversation.watch.now
    → conversation.deadline
    ≡ deadline_at conversation.backoff conversation.watch.now conversation.end
