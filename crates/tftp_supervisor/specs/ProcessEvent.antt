-- What was done with the processes of servers, and what was printed, the newest first (ours).
use Rattle.std.specs.Prelude.{ℕ, ◌≡◌, ◌<◌, ◌≤◌, ◌+◌, ◌==◌, List, [], ◌∷◌, ◌++◌, length}
use Rattle.std.specs.Prelude.{if◌then◌else◌, Contains, Result, Ok, Some, pos}
use Rattle.std.specs.Process.{exit_code}
use Rattle.std.specs.declared.io.Error.{Error}
use Rattle.std.specs.declared.process.status.ExitStatus.{ExitStatus}

pub data ProcessEvent : Type 0 where
  -- a server was started by this command line: the first is server 1, and each has the next number
  Started : (line : List (List ℕ)) → ProcessEvent
  -- a read of a server's output gave these bytes
  Gave : (server : ℕ) (bytes : List ℕ) → ProcessEvent
  -- the output of a server is closed, and all of it was read
  Closed : (server : ℕ) → ProcessEvent
  -- a server that had not ended was killed; it has ended with this status, or the system refused
  Ended : (server : ℕ) (answer : Result ExitStatus Error) → ProcessEvent
  -- these bytes were passed to standard output, in one write
  Printed : (text : List ℕ) → ProcessEvent

-- the command lines of the servers that were started, the first first
abbrev pub started_in : List ProcessEvent → List (List (List ℕ))
started_in [] = []
started_in (Started line ∷ before) = started_in before ++ line ∷ []
started_in (Gave server bytes ∷ before) = started_in before
started_in (Closed server ∷ before) = started_in before
started_in (Ended server answer ∷ before) = started_in before
started_in (Printed text ∷ before) = started_in before

-- all that the output of a server gave
abbrev pub given_by : ℕ → List ProcessEvent → List ℕ
given_by server [] = []
given_by server (Started line ∷ before) = given_by server before
given_by server (Gave other bytes ∷ before) =
    if other == server then given_by server before ++ bytes else given_by server before
given_by server (Closed other ∷ before) = given_by server before
given_by server (Ended other answer ∷ before) = given_by server before
given_by server (Printed text ∷ before) = given_by server before

-- all that was printed
abbrev pub printed_in : List ProcessEvent → List ℕ
printed_in [] = []
printed_in (Started line ∷ before) = printed_in before
printed_in (Gave server bytes ∷ before) = printed_in before
printed_in (Closed server ∷ before) = printed_in before
printed_in (Ended server answer ∷ before) = printed_in before
printed_in (Printed text ∷ before) = printed_in before ++ text

-- the history after a text is printed: nothing is written of an empty one
abbrev pub after_print : List ℕ → List ProcessEvent → List ProcessEvent
after_print [] events = events
after_print (byte ∷ bytes) events = Printed (byte ∷ bytes) ∷ events

-- there is a server of this number, counted from 1
pub record IsStarted (server : ℕ) (events : List ProcessEvent) : Type 0 where
  pub first : 1 ≤ server
  pub last : server ≤ length (started_in events)

-- a server was ended, if the system let it be
pub record WasEnded (server : ℕ) (events : List ProcessEvent) : Type 0 where
  pub answer : Result ExitStatus Error
  pub ended : Contains events (Ended server answer)

-- a server ended with the status 0, and all that it had printed was read
pub record HasSucceeded (server : ℕ) (events : List ProcessEvent) : Type 0 where
  pub closed : Contains events (Closed server)
  pub status : ExitStatus
  pub ended : Contains events (Ended server (Ok status))
  pub success : exit_code status ≡ Some (pos 0)

-- each server that was started was ended
abbrev pub EachEnded : List ProcessEvent → Type 0
EachEnded events = (k : ℕ) → k < length (started_in events) → WasEnded (k + 1) events

-- so many servers, counted from 1, ended with the status 0
abbrev pub AllSucceeded : ℕ → List ProcessEvent → Type 0
AllSucceeded count events = (k : ℕ) → k < count → HasSucceeded (k + 1) events

-- the servers that were started are the first of these command lines, in their order
pub record StartsFirst (lines : List (List (List ℕ))) (events : List ProcessEvent) : Type 0 where
  pub rest : List (List (List ℕ))
  pub is : lines ≡ started_in events ++ rest
