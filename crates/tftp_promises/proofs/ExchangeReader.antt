-- What the steps of the exchange have in common: packets that are spelled, and files in memory.
use Rattle.tftp_promises.proofs.Common.{List, ℕ, ◌≡◌, rules, refl, [], Some, inl, ◌∷◌, false, true, EndState}
use Rattle.tftp_promises.proofs.Common.{Files, arith, Turn, State, Sink, Spells, after_turn, ◌<◌, Ok}
use Rattle.tftp_promises.proofs.Common.{timeout_turn, DatagramStep, Receives_one, ClientDoes, Ack, Answers, Waits_until}
use Rattle.tftp_promises.proofs.Common.{Goes_on, Starts, begun, Times_out, Terms, To_read, Read, Data, ClientProgram}
use Rattle.tftp_promises.proofs.Common.{Elapses, request_of, Oack, response_turn, ◌^◌, data_bytes, oack_bytes}
use Rattle.tftp_promises.proofs.Common.{agreed_options, received, Accept, agreed_terms, memory_source, Done}
use Rattle.tftp_promises.proofs.Common.{committed_turn, ack_bytes, read_file, blocks_of_8, Constant, agreed}
use Rattle.tftp_promises.proofs.Common.{read_request, read_name, requests, Octet, turned, Empty, memory_sink, elapsed}
use Rattle.tftp_promises.proofs.Common.{read_port, client_ip, getting, waited}
use Rattle.std.proofs.Common.{decimal}
use Rattle.std.proofs.lemmas.Fmt.{decimal_digit}
use Rattle.tftp_negotiate.specs.Options.{number_of, name_of}
use Rattle.tftp_negotiate.proofs.LawsLemmas.{numbers_are_printed}
use Rattle.tftp_file.specs.Memory.{MustRefuseAppend, new_mem_sink, MemSinkState}
use Rattle.tftp_ends.specs.Opening.{MayGet}
use Rattle.tftp_negotiate.specs.Agreement.{taken_option}
use Rattle.tftp_negotiate.specs.Negotiation.{occurrences_of}
use Rattle.tftp_promises.specs.Witness.{read_at}

-- ---- how 8 is written, and read
pub eight : decimal 8 ≡ 56 ∷ []
eight = decimal_digit 8 (omega arith)

pub read_8 : number_of (decimal 8) ≡ Some 8
read_8 = (numbers_are_printed (decimal 8) 8).1 (refl, omega arith)

-- ---- the packets
pub may_read : MayGet read_name Octet blocks_of_8
may_read = record { valid = rw eight (search rules); options = search rules }

pub read_spelled : Spells (Read (request_of read_name Octet blocks_of_8)) read_request
read_spelled = record { valid = may_read.valid; word = 111 ∷ 99 ∷ 116 ∷ 101 ∷ 116 ∷ []; mode = refl; whole = refl }

pub oack_spelled : Spells (Oack (agreed_options agreed)) (oack_bytes agreed)
oack_spelled = record { valid = rw eight (search rules); word = []; mode = refl; whole = refl }

pub ack_spelled : (number : ℕ) → number < 2 ^ 16 → Spells (Ack number) (ack_bytes number)
ack_spelled number fits = record { valid = fits; word = []; mode = refl; whole = refl }

pub block_spelled : (byte : ℕ) → Spells (Data 1 (byte ∷ [])) (data_bytes 1 (byte ∷ []))
block_spelled byte = search rules

-- ---- a sink in memory that is not full refuses nothing
pub takes_all : {P : Type 0} (bytes : List ℕ) → MustRefuseAppend (new_mem_sink 10 false) bytes → P
takes_all bytes must = search rules

-- The client of the exchange, which reads, and whose ACK 0 is lost.

abbrev at_first : EndState
at_first = getting requests read_name Octet blocks_of_8 10 3

abbrev terms : Terms
terms = agreed_terms read_port agreed

abbrev Step : EndState → Files (List ℕ) MemSinkState → List ℕ → Turn → Files (List ℕ) MemSinkState → Type 0
Step e files bytes turn files' = DatagramStep memory_source memory_sink read_port bytes e files turn files'

abbrev empty : Files (List ℕ) MemSinkState
empty = Sink (new_mem_sink 10 false)

-- the block, and then its commit
abbrev with_block : MemSinkState
with_block =
    record (new_mem_sink 10 false) { holding = record { bytes = read_file; committed = false; refuses = false } }

abbrev pub stored : MemSinkState
stored = record (new_mem_sink 10 false) { holding = record { bytes = read_file; committed = true; refuses = false } }

-- ---- the turns
abbrev accepts : Turn
accepts = response_turn (Accept terms) read_port at_first

abbrev receiving : EndState
receiving = after_turn at_first accepts

-- the ACK 0 is sent again
abbrev retrying : EndState
retrying = after_turn receiving (timeout_turn receiving)

abbrev done : Done
done = tt

abbrev stores : Turn
stores = committed_turn terms 1 read_port retrying (Ok done)

abbrev pub dallying : EndState
dallying = after_turn retrying stores

pub accepts_so : Step at_first empty (oack_bytes agreed) accepts empty
unfolding occurrences_of name_of taken_option
accepts_so =
    record {
      decoded = Some (Oack (agreed_options agreed));
      says = oack_spelled;
      acts = rw read_8 (refl, refl);
      again = rw read_8 tt;
    }

pub stores_so : Step retrying empty (data_bytes 1 read_file) stores (Sink stored)
stores_so = record {
  decoded = Some (Data 1 read_file);
  says = block_spelled 65;
  acts = (
    read_file,
    block_spelled 65,
    record {
      bytes = read_file;
      after = [];
      mid = with_block;
      answer = Ok done;
      decoded = (refl, refl);
      appended = (refl, tt, tt, λ must. takes_all read_file must);
      memory = λ e. absurd (cc);
      rest = record {
        answer = Ok done;
        commits = refl;
        refused = tt;
        leaves = tt;
        effect = search rules;
        answers = refl;
      };
    },
  );
  again = tt;
}

-- ---- the states
abbrev s0 : State
s0 = begun Constant 5000 0 at_first []

abbrev s1 : State
s1 = turned 5000 accepts (received 5000 read_port (oack_bytes agreed) (read_at 10) s0)

-- after a wait in which nothing came, and its timeout
abbrev s2 : State
s2 = waited (Empty 5000) (read_at 1000) s1

abbrev s3 : State
s3 = elapsed 5000 s2

abbrev s4 : State
s4 = turned 5000 stores (received 5000 read_port (data_bytes 1 read_file) (read_at 1010) s3)

-- ---- the steps
abbrev ClientSteps : State → Files (List ℕ) MemSinkState → State → Files (List ℕ) MemSinkState → Type 0
ClientSteps s files s' files' = ClientDoes memory_source memory_sink 5000 s files s' files'

unfoldable pub accepts_does : ClientSteps s0 empty s1 empty
accepts_does =
    Receives_one {watch = read_at 10} (search rules) (search rules) (Answers (search rules) accepts_so)

unfoldable pub waits_does : ClientSteps s1 empty s2 empty
waits_does =
    Waits_until {event = Empty 5000} {watch = read_at 1000} (search rules) (inl refl) (search rules)

unfoldable pub times_does : ClientSteps s2 empty s3 empty
times_does = Times_out (Elapses (omega arith) (search rules))

unfoldable pub stores_does : ClientSteps s3 empty s4 (Sink stored)
stores_does =
    Receives_one {watch = read_at 1010} (search rules) (search rules) (Answers (search rules) stores_so)

abbrev pub reading : ClientProgram memory_source memory_sink requests
reading = record {
  ip = client_ip;
  port = 5000;
  reading = 0;
  backoff = Constant;
  first = at_first;
  before = [];
  last = s4;
  files = Sink stored;
  file = empty;
  runs = Goes_on (Goes_on (Goes_on (Goes_on Starts accepts_does) waits_does) times_does) stores_does;
  opens = To_read (record {
    name = read_name;
    mode = Octet;
    asked = blocks_of_8;
    limit = 10;
    retries = 3;
    may = may_read;
    is = refl;
    sink = new_mem_sink 10 false;
    is_file = refl;
  });
  noted = s4.events;
  is_noted = refl;
}
