-- A run of an end: its opening and its steps in sequence, with any files.
use Rattle.std.specs.Prelude.{ℕ, ◌≡◌, ◌+◌, ◌*◌, ◌<◌, ◌==◌, ◌&&◌, ◌||◌, Bool, true, false, List, []}
use Rattle.std.specs.Prelude.{◌∷◌, Option, Some, None, is_some}
use Rattle.tftp_wire.specs.declared.mode.Mode.{Mode}
use Rattle.tftp_negotiate.specs.Agreed.{size}
use Rattle.tftp_negotiate.specs.declared.asked.Asked.{Asked}
use Rattle.tftp_negotiate.specs.declared.known.Known.{Known}
use Rattle.tftp_file.specs.Source.{SourceMeaning}
use Rattle.tftp_file.specs.Sink.{SinkMeaning}
use Rattle.tftp_file.specs.declared.files.Files.{Files}
use Rattle.tftp_ends.specs.declared.endpoint.Endpoint.{Endpoint}
use Rattle.tftp_ends.specs.End.{EndState, outcome_of, is_progress}
use Rattle.tftp_ends.specs.Opening.{getting, putting, serving_read, serving_write}
use Rattle.tftp_ends.specs.Step.{Reply, Turn, DatagramStep, after_turn, timeout_turn}

-- an end at its opening, of each of the four kinds; the blocks of a served file can be numbered
pub data IsOpening (e : EndState) : Type 0 where
  Gets : (to : Endpoint) (name : List ℕ) (mode : Mode) (asked : Asked) (limit retries : ℕ)
      → e ≡ getting to name mode asked limit retries → IsOpening e
  Puts : (to : Endpoint) (name : List ℕ) (mode : Mode) (asked : Asked) (length limit retries : ℕ)
      → e ≡ putting to name mode asked length limit retries → IsOpening e
  Serves_read : (agreed : List Known) (peer : Endpoint) (mode : Mode) (length retries : ℕ)
      (piece : List ℕ) → length < 65535 * size agreed
      → e ≡ serving_read agreed peer mode length retries piece → IsOpening e
  Serves_write : (agreed : List Known) (peer : Endpoint) (mode : Mode) (retries : ℕ)
      → e ≡ serving_write agreed peer mode retries → IsOpening e

-- an event: a datagram with its sender and its bytes, or a timeout
pub data EndEvent : Type 0 where
  Datagram : Endpoint → List ℕ → EndEvent
  Timeout : EndEvent

-- an event, and the end's position and answer after it
pub record Taken : Type 0 where
  pub event : EndEvent
  pub turn : Turn

-- the end after some steps
abbrev pub end_after_run : EndState → List Taken → EndState
end_after_run e [] = e
end_after_run e (taken ∷ run) = end_after_run (after_turn e taken.turn) run

-- the end is open
abbrev pub IsOpen : EndState → Type 0
IsOpen e = is_some (outcome_of e.position.phase) ≡ false

-- a datagram has this opcode
abbrev pub has_opcode : ℕ → List ℕ → Bool
has_opcode opcode (high ∷ low ∷ rest) = high == 0 && (low == opcode)
has_opcode opcode (high ∷ []) = false
has_opcode opcode [] = false

-- an answer is a DATA; an answer is an OACK
abbrev pub is_data : Option Reply → Bool
is_data None = false
is_data (Some reply) = has_opcode 3 reply.bytes

abbrev pub is_oack : Option Reply → Bool
is_oack None = false
is_oack (Some reply) = has_opcode 6 reply.bytes

module _ {S K : Type 0} (sources : SourceMeaning S) (sinks : SinkMeaning K) where
  -- one step
  abbrev pub Takes : EndState → EndEvent → Turn → Type 0
  Takes e (Datagram from bytes) turn =
      (files : Files S K) × (files' : Files S K)
      × DatagramStep sources sinks from bytes e files turn files'
  Takes e Timeout turn = turn ≡ timeout_turn e

  -- a sequence of steps: each begins at an open end, in the state in which the step before it ended
  abbrev pub IsRun : EndState → List Taken → Type 0
  IsRun e [] = Unit {0}
  IsRun e (taken ∷ run) =
      IsOpen e × Takes e taken.event taken.turn × IsRun (after_turn e taken.turn) run

  -- the end answers a datagram by DATA only with progress, and never by an OACK
  abbrev pub AnswersByProgress : EndState → Type 0
  AnswersByProgress e =
      (from : Endpoint) (bytes : List ℕ) (turn : Turn) → Takes e (Datagram from bytes) turn →
      (is_oack turn.reply ≡ false)
      × (is_data turn.reply ≡ true → is_progress e.position.phase turn.position.phase ≡ true)

-- 1 if it holds, else 0
abbrev pub count_if : Bool → ℕ
count_if true = 1
count_if false = 0

-- how many steps had progress
abbrev pub progress_count : EndState → List Taken → ℕ
progress_count e [] = 0
progress_count e (taken ∷ run) =
    count_if (is_progress e.position.phase taken.turn.position.phase)
    + progress_count (after_turn e taken.turn) run

abbrev pub is_timeout : EndEvent → Bool
is_timeout (Datagram from bytes) = false
is_timeout Timeout = true

-- how many events were timeouts
abbrev pub timeout_count : List Taken → ℕ
timeout_count [] = 0
timeout_count (taken ∷ run) = count_if (is_timeout taken.event) + timeout_count run

-- how many answers were DATA or OACK
abbrev pub data_count : List Taken → ℕ
data_count [] = 0
data_count (taken ∷ run) =
    count_if (is_data taken.turn.reply || is_oack taken.turn.reply) + data_count run

-- whether the datagram that opened an end was DATA or OACK
abbrev pub opened_by_data : EndState → Bool
opened_by_data e = has_opcode 3 e.position.last_sent || has_opcode 6 e.position.last_sent

-- how many datagrams were sent
abbrev pub datagram_count : List Taken → ℕ
datagram_count [] = 0
datagram_count (taken ∷ run) = count_if (is_some taken.turn.reply) + datagram_count run
