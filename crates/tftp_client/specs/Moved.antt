-- What moved between the file of an end and its datagrams, by the end's run. No model of a file is
-- needed.
use Rattle.std.specs.Prelude.{ℕ, ◌||◌, Bool, true, false, if◌then◌else◌, List, [], ◌++◌, length}
use Rattle.std.specs.Prelude.{nat_lt, Result, Ok, Err, is_ok}
use Rattle.tftp_file.specs.Sink.{SinkMeaning}
use Rattle.tftp_file.specs.Source.{SourceMeaning}
use Rattle.tftp_file.specs.declared.fault.StoreFault.{StoreFault}
use Rattle.tftp_file.specs.declared.files.Files.{Files}
use Rattle.tftp_file.specs.declared.files.Files.TheVariants.{Source, Sink}
use Rattle.tftp_ends.specs.declared.action.Action.{Action}
use Rattle.tftp_ends.specs.declared.action.Action.TheVariants.{Respond, Send, Store}
use Rattle.tftp_ends.specs.declared.endpoint.Endpoint.{Endpoint}
use Rattle.tftp_ends.specs.declared.phase.Terms.{Terms}
use Rattle.tftp_ends.specs.Action.{datagram_action}
use Rattle.tftp_ends.specs.End.{EndState}
use Rattle.tftp_ends.specs.Step.{Done, Turn, SendsFrom, StoresIn, GoesOn, Acts, DatagramStep}
use Rattle.tftp_ends.specs.Step.{block_length, result_count_is}
use Rattle.tftp_client.specs.Converses.{Converses, State, HandlesReceived}
use Rattle.tftp_client.specs.Converses.Converses.{Begins, Receives, Waits, Times, Rests}
use Rattle.tftp_client.specs.Converses.HandlesReceived.{Answers, Loses}

-- of a sender: the bytes that its source gave for the blocks that it sent, in order, each once; of
-- a receiver: the bytes that its sink was handed, in order, and whether a commit after them
-- succeeded
pub record Moved : Type 0 where
  pub bytes : List ℕ
  pub committed : Bool

-- nothing has moved
abbrev pub nothing_moved : Moved
nothing_moved = record { bytes = []; committed = false }

-- more bytes have
abbrev pub with_more : List ℕ → Bool → Moved → Moved
with_more bytes committed moved = record { bytes = moved.bytes ++ bytes; committed = committed }

-- ---- by a step of an end
module _ {S K : Type 0} (sources : SourceMeaning S) (sinks : SinkMeaning K) where
  -- the block of the DATA that was sent; none if the source did not give the whole block
  abbrev pub given_by : (terms : Terms) (number : ℕ) (from : Endpoint) (e : EndState)
      (files : Files S K) (turn : Turn) (files' : Files S K)
      → SendsFrom sources sinks terms number from e files turn files' → List ℕ
  given_by terms number from e (Source source) turn (Source source') sends =
      if result_count_is (block_length e.role.length terms.size number) sends.answer
      then sends.piece else []
  given_by terms number from e (Source source) turn (Sink sink') sends = []
  given_by terms number from e (Sink sink) turn files' sends = []

  -- the bytes that the sink was handed
  abbrev pub handed_by : (terms : Terms) (number : ℕ) (from : Endpoint) (piece : List ℕ)
      (e : EndState) (files : Files S K) (turn : Turn) (files' : Files S K)
      → StoresIn sources sinks terms number from piece e files turn files' → List ℕ
  handed_by terms number from piece e (Sink sink) turn (Sink sink') stores = stores.bytes
  handed_by terms number from piece e (Sink sink) turn (Source source') stores = []
  handed_by terms number from piece e (Source source) turn files' stores = []

  -- whether a commit followed and succeeded
  abbrev pub commits_after : (terms : Terms) (number : ℕ) (from : Endpoint) (e : EndState)
      (last : Bool) (after : List ℕ) (sink : K) (answer : Result Done StoreFault) (turn : Turn)
      (sink' : K) → GoesOn sinks terms number from e last after sink answer turn sink' → Bool
  commits_after terms number from e true after sink (Ok done) turn sink' goes = is_ok goes.answer
  commits_after terms number from e false after sink (Ok done) turn sink' goes = false
  commits_after terms number from e last after sink (Err fault) turn sink' goes = false

  abbrev pub commits_by : (terms : Terms) (number : ℕ) (from : Endpoint) (piece : List ℕ)
      (e : EndState) (files : Files S K) (turn : Turn) (files' : Files S K)
      → StoresIn sources sinks terms number from piece e files turn files' → Bool
  commits_by terms number from piece e (Sink sink) turn (Sink sink') stores =
      commits_after terms number from e (nat_lt (length piece) terms.size) stores.after stores.mid
      stores.answer turn sink' stores.rest
  commits_by terms number from piece e (Sink sink) turn (Source source') stores = false
  commits_by terms number from piece e (Source source) turn files' stores = false

  -- what has moved after an action
  abbrev pub acts_move : (action : Action) (from : Endpoint) (bytes : List ℕ) (e : EndState)
      (files : Files S K) (turn : Turn) (files' : Files S K)
      → Acts sources sinks action from bytes e files turn files' → Moved → Moved
  acts_move (Respond response) from bytes e files turn files' acts moved = moved
  acts_move (Send terms number) from bytes e files turn files' acts moved =
      with_more (given_by terms number from e files turn files' acts) moved.committed moved
  acts_move (Store terms number) from bytes e files turn files' acts moved =
      with_more (handed_by terms number from acts.0 e files turn files' acts.2)
      (moved.committed || commits_by terms number from acts.0 e files turn files' acts.2) moved

  -- and after the step of an end at a datagram
  abbrev pub step_moves : (from : Endpoint) (bytes : List ℕ) (e : EndState) (files : Files S K)
      (turn : Turn) (files' : Files S K)
      → DatagramStep sources sinks from bytes e files turn files' → Moved → Moved
  step_moves from bytes e files turn files' step moved =
      acts_move (datagram_action e from bytes step.decoded) from bytes e files turn files'
      step.acts moved

-- ---- by the run of a client
module _ {S K : Type 0} {sources : SourceMeaning S} {sinks : SinkMeaning K} where
  -- after a datagram
  abbrev pub handling_moves : {port : ℕ} {from : Endpoint} {bytes : List ℕ} {s next : State}
      {files files' : Files S K}
      → HandlesReceived sources sinks port from bytes s files next files' → Moved → Moved
  handling_moves {from = from} {bytes = bytes} {s = s} {files = files}
      (Answers {turn = turn} {files' = files'} still step) moved =
      step_moves sources sinks from bytes s.end files turn files' step moved
  handling_moves (Loses lost keeps) moved = moved

  -- after its run, by what had moved before
  abbrev pub run_moves : {port : ℕ} {first : State} {file : Files S K} {s : State}
      {files : Files S K} → Converses sources sinks port first file s files → Moved → Moved
  run_moves Begins moved = moved
  run_moves (Receives run may time answers) moved =
      handling_moves answers.handles (run_moves run moved)
  run_moves (Waits run may event time) moved = run_moves run moved
  run_moves (Times run elapses) moved = run_moves run moved
  run_moves (Rests run works) moved = run_moves run moved
