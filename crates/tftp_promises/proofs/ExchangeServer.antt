-- The states of the server of the exchange: its file, its ends, its transfer and its timer.
use Rattle.std.proofs.Common.{rules as std_rules}
use Rattle.tftp_promises.proofs.Common.{List, ℕ, ◌≡◌, rules, sym, refl, [], Some, inl, ◌∷◌, false, true, None, EndState}
use Rattle.tftp_promises.proofs.Common.{true≢false, arith, LoopState, length, TransferState, LoopStep, Sent, Received}
use Rattle.tftp_promises.proofs.Common.{Run, Turn, Source, Then, Start, ServerState, after_turn, Ok, A_transfer}
use Rattle.tftp_promises.proofs.Common.{IsBlockSize, Ack, left_by, Config, Terms, Read, request_of, serving_read}
use Rattle.tftp_promises.proofs.Common.{response_turn, oack_bytes, at_start, LoopConfig, StepIn, agreed_terms}
use Rattle.tftp_promises.proofs.Common.{memory_source, ServerProgram, AsksToRead, Timer, ack_bytes, reader}
use Rattle.tftp_promises.proofs.Common.{memory_meaning, read_file, blocks_of_8, Complete, filled_turn, Request_received}
use Rattle.tftp_promises.proofs.Common.{Constant, agreed, read_request, read_name, requests, Octet}
use Rattle.tftp_store.specs.Store.{Stored, Drafted}
use Rattle.tftp_sockets.specs.Watch.{last_moment}
use Rattle.tftp_negotiate.specs.Answer.{answered_option}
use Rattle.tftp_negotiate.specs.Negotiation.{occurrences_of}
use Rattle.tftp_negotiate.specs.Options.{name_of}
use Rattle.tftp_ends.specs.declared.outgoing.Outgoing.TheVariants.{Nothing, LastSent}
use Rattle.tftp_loop.specs.Steps.LoopStep.{Request_answered}
use Rattle.tftp_loop.proofs.WitnessPort.{after_it, handles}
use Rattle.tftp_promises.proofs.ExchangeReader.{ack_spelled, read_8, read_spelled}

abbrev pub Held : Type 0
Held = TransferState (List ℕ) Drafted

abbrev pub Server : Type 0
Server = ServerState Stored (List ℕ) Drafted

abbrev pub Loop : Type 0
Loop = LoopState Stored (List ℕ) Drafted

-- ---- the server at its start
abbrev pub config : Config
config = record { limits = record { max_block = 512; max_file = 10 }; retries = 3; cap = 2; overwrite = false }

abbrev pub service : LoopConfig
service = record {
  listen = requests;
  ports = None;
  ending = record { transfers = 1; rounds = 2 };
  longest = None;
  backoff = Constant;
  requests_only = false;
  per_client = None;
  drains = false;
  logs = false;
  has_priority = false;
}

abbrev pub store : Stored
store = record { files = (read_name, read_file) ∷ []; refuses = false }

abbrev pub serving : List (ℕ × Held) → Server
serving held = record { config = config; store = store; held = held }

-- ---- the ends
abbrev terms : Terms
terms = agreed_terms reader agreed

abbrev pub reading_0 : EndState
reading_0 = serving_read agreed reader Octet 1 3 []

abbrev pub sends : Turn
sends = filled_turn terms 1 reader read_file reading_0 (Ok 1)

abbrev pub reading_1 : EndState
reading_1 = after_turn reading_0 sends

abbrev pub completes : Turn
completes = response_turn Complete reader reading_1

abbrev pub reading_2 : EndState
reading_2 = after_turn reading_1 completes

-- ---- the transfer, and its timer after so many datagrams
abbrev pub read_by : EndState → List ℕ → Held
read_by end source = record { end = end; files = Source source; path = read_name; request = read_request }

abbrev pub timed : ℕ → Timer
timed received =
    record {
      port = 1024;
      peer = reader;
      interval = 1;
      backoff = Constant;
      timeouts = 0;
      deadline = 1000;
      marked = false;
      look_at = 500;
      provisional = true;
      age_limit = last_moment;
      received = received;
    }

-- ---- the states
abbrev pub s0 : Loop
s0 = at_start service 69 (serving []) 0 []

abbrev pub s1 : Loop
s1 = record s0 { pending = Some (reader, read_request); asked = true; events = Received 69 reader read_request ∷ [] }

abbrev pub s2 : Loop
s2 = record s1 {
  server = serving ((1024, read_by reading_0 read_file) ∷ []);
  pending = None;
  timers = timed 0 ∷ [];
  events = Sent 1024 reader (oack_bytes agreed) ∷ s1.events;
}

-- The server of the exchange, step by step.

-- ---- the steps
abbrev Step : Loop → Loop → Type 0
Step old new = LoopStep memory_meaning memory_source old new

abbrev pub s3 : Loop
s3 = after_it s2 0 (timed 0) (read_by reading_0 read_file) reader (ack_bytes 0) sends LastSent store (Source [])

abbrev pub s4 : Loop
s4 = after_it s3 0 (timed 1) (read_by reading_1 []) reader (ack_bytes 1) completes Nothing store (Source [])

unfoldable pub asks_to_read : Step s0 s1
asks_to_read = Request_received
    (record { from = reader; bytes = read_request; none = refl; goes_on = refl; first = refl; is = refl })

-- the file is opened
pub reads_file : AsksToRead memory_meaning memory_source (serving []) reader read_request read_name Octet
    (request_of read_name Octet blocks_of_8).options (A_transfer (read_by reading_0 read_file) store)
unfolding occurrences_of name_of answered_option
reads_file = record {
  file = Ok (record { source = read_file; length = 1 });
  opens = (read_file, refl, record { source = refl; length = refl });
  refused = tt;
  must = λ fault m. absurd (let f : Some read_file ≡ None = m.missing in cc);
  reads = λ want f. absurd f;
  opened = tt;
  memory = λ e. absurd (cc);
  goes_on = rw read_8 (inl (record { rest = read_file; end = reading_0; serves = (refl, refl); opens = refl }));
}

unfoldable pub opens_read : Step s1 s2
unfolding occurrences_of name_of answered_option
opens_read = Request_answered (record {
  from = reader;
  bytes = read_request;
  pending = refl;
  handled = λ only. absurd (true≢false (sym only));
  few = refl;
  tid = 1024;
  free = refl;
  left = left_by (A_transfer (read_by reading_0 read_file) store) (serving []) reader 1024;
  port = tt;
  own = λ same. absurd (omega (arith, same));
  set = tt;
  steps = record {
    decoded = Some (Read (request_of read_name Octet blocks_of_8));
    says = read_spelled;
    repeated = false;
    repeats = (λ f. absurd (true≢false (sym f)), λ none. absurd none);
    came = A_transfer (read_by reading_0 read_file) store;
    goes = reads_file;
    left = refl;
  };
  is = refl;
})

-- the block is read and sent
pub reads_block : StepIn memory_meaning memory_source reader (ack_bytes 0) reading_0 (Source read_file) sends (Source [])
reads_block = record {
  decoded = Some (Ack 0);
  says = ack_spelled 0 (omega arith);
  acts = record {
    answer = Ok 1;
    piece = read_file;
    reads = search std_rules;
    gives = tt;
    answers = refl;
  };
  again = tt;
}

unfoldable pub sends_block : Step s2 s3
sends_block =
    handles s2 0 (timed 0) (read_by reading_0 read_file) reader (ack_bytes 0) sends LastSent store (Source [])
    (omega arith) (omega arith) (omega arith) refl refl refl reads_block refl refl tt

-- it is acknowledged
pub is_acknowledged : StepIn memory_meaning memory_source reader (ack_bytes 1) reading_1 (Source []) completes (Source [])
is_acknowledged = record { decoded = Some (Ack 1); says = ack_spelled 1 (omega arith); acts = (refl, refl); again = tt }

unfoldable pub completes_read : Step s3 s4
completes_read =
    handles s3 0 (timed 1) (read_by reading_1 []) reader (ack_bytes 1) completes Nothing store (Source []) (omega arith) (omega arith)
    (omega arith) refl refl refl is_acknowledged refl refl tt

pub agreeable : IsBlockSize config.limits.max_block
agreeable = search rules

abbrev pub serves : Run (LoopStep memory_meaning memory_source) s0 s4
serves = Then (Then (Then (Then Start asks_to_read) opens_read) sends_block) completes_read

abbrev pub server : ServerProgram memory_meaning memory_source requests
server = record {
  start = s0;
  last = s4;
  run = serves;
  noted = s4.events;
  is_noted = refl;
  requests = refl;
  empty = refl;
  idle = refl;
  max_block = agreeable;
}
