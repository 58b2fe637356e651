-- Runs of two servers over such a store, one that gives a file and one that stores one: the law `some_servers_serve`.
use Rattle.std.proofs.Common.{rules, ◌≡◌, ◌<◌, refl, ℕ, Bool, [], ◌∷◌, Some, None, Ok, Err, true, false, arith, inl}
use Rattle.std.proofs.Common.{inr, List, length, sym}
use Rattle.std.specs.Prelude.{◌*◌, ◌^◌, codes}
use Rattle.std.proofs.lemmas.Bool.{ltb-true, true≢false}
use Rattle.clap.proofs.OnLiterals.{clap_on_literals}
use denote.RawPtr.{null_ptr}
use Rattle.tftp_wire.specs.Spelling.{Spells, canonical}
use Rattle.tftp_wire.specs.declared.mode.Mode.TheVariants.{Octet}
use Rattle.tftp_wire.specs.declared.packet.Packet.TheVariants.{Ack, Data, Read, Write}
use Rattle.tftp_negotiate.specs.Answer.{answered_option}
use Rattle.tftp_negotiate.specs.Negotiation.{occurrences_of}
use Rattle.tftp_negotiate.specs.Options.{name_of}
use Rattle.tftp_negotiate.specs.Ranges.{IsBlockSize}
use Rattle.tftp_negotiate.specs.declared.asked.Asked.{Asked}
use Rattle.tftp_file.specs.declared.files.Files.TheVariants.{Source as A_source, Sink}
use Rattle.tftp_file.specs.declared.fault.StoreFault.TheVariants.{Memory}
use Rattle.tftp_ends.specs.declared.backoff.Backoff.TheVariants.{Constant}
use Rattle.tftp_ends.specs.declared.endpoint.Endpoint.{Endpoint}
use Rattle.tftp_ends.specs.declared.action.Response.TheVariants.{Complete}
use Rattle.tftp_ends.specs.declared.outcome.Outcome.TheVariants as outcomes
use Rattle.tftp_ends.specs.declared.outgoing.Outgoing.TheVariants.{Nothing, LastSent}
use Rattle.tftp_ends.specs.End.{EndState, record_of}
use Rattle.tftp_ends.specs.Opening.{MayGet, MayPut, request_of, serving_read, serving_write}
use Rattle.tftp_ends.specs.Step.{Done, Turn, ack_bytes, after_turn, committed_turn, data_bytes, response_turn}
use Rattle.tftp_ends.specs.Waiting.{default_terms}
use Rattle.tftp_server.specs.Draft.{files_in}
use Rattle.tftp_server.specs.Request.{A_transfer, AsksToRead, AsksToWrite, left_by}
use Rattle.tftp_server.specs.State.{ServerState, TransferState, at}
use Rattle.tftp_server.specs.Steps.{StepIn}
use Rattle.tftp_server.specs.declared.config.Config.{Config}
use Rattle.tftp_lines.specs.Printed.{line_text}
use Rattle.tftp_lines.specs.declared.printed.Printed.TheVariants.{Closed}
use Rattle.tftp_sockets.specs.Bound.{IsBoundTo}
use Rattle.tftp_sockets.specs.Trace.{SocketEvent}
use Rattle.tftp_sockets.specs.Trace.SocketEvent.{Printed, Quiet, Received, Sent}
use Rattle.tftp_sockets.specs.Trace.QuietEvent.{No_reader}
use Rattle.tftp_sockets.specs.Watch.{last_moment}
use Rattle.tftp_loop.specs.Run.{Run}
use Rattle.tftp_loop.specs.Run.Run.{Start, Then}
use Rattle.tftp_loop.specs.Steps.{LoopState, LoopStep, Timer, at_start}
use Rattle.tftp_loop.specs.Steps.LoopStep.{Request_answered, Request_received, Transfer_closed}
use Rattle.tftp_loop.specs.WholeRun.{Bound, listening}
use Rattle.tftp_loop.specs.declared.serving.LoopConfig.{LoopConfig}
use Rattle.tftp_loop.specs.declared.serving.LoopFault.TheVariants.{NoReader}
use Rattle.tftp_loop.proofs.WitnessPort.{handles}
use Rattle.tftp_sockets.proofs.WitnessAddress.{its_name, server}
use Rattle.tftp_daemon.specs.CommandLine.EndsAs.{After as Ends_after}
use Rattle.tftp_daemon.specs.CommandLine.{IsOfSeveral}
use Rattle.tftp_daemon.specs.Configured.{IsServerOf, ServesWords, service_at}
use Rattle.tftp_daemon.specs.Words.{WordsConfigure}
use Rattle.tftp_daemon.specs.declared.daemon.DaemonConfig.{DaemonConfig}
use Rattle.tftp_daemon.specs.declared.listen.Listen.TheVariants.{At}
use Rattle.tftp_daemon.specs.Witness.{Draft, Source, Store, SomeServe, its_calls, read_name, root, sources, stores, words, write_name}
use Rattle.tftp_daemon.proofs.WitnessFolder.{appends, begins, begun, commits, draft, ended, filled, gave, its_root, opened, opens}
use Rattle.tftp_daemon.proofs.WitnessFolder.{read, stays_inside, store, whole}

-- ---- the arguments
abbrev pub limits : Config
limits = record { limits = record { max_block = 512; max_file = 1000 }; retries = 1; cap = 2; overwrite = false }

abbrev pub config : DaemonConfig
config = record {
  root = record { ref_ptr = (0, 0); now = root };
  config = limits;
  read_only = false;
  uploads = None;
  listen = At server;
  others = record {
    ptr = null_ptr;
    len = 0;
    cap = 0;
    alloc = record { memory = record { seal = tt } };
    items = [];
    ok = (refl, omega arith);
    small = omega arith;
  };
  ports = None;
  requests_only = false;
  per_client = None;
  ending = record { transfers = 1; rounds = 1000000 };
  longest = None;
  length_memory = 12582912;
  backoff = Constant;
  drain = None;
  status = None;
  logs = false;
  log_times = false;
  instance = record { servers = 1; server = None };
  has_priority = false;
}

-- it is alone
is_one : IsOfSeveral config → ⊥
is_one (inl many) = absurd (omega (arith, many))
is_one (inr others) = others refl

pub configured : WordsConfigure words config
unfolding clap_on_literals
configured = record {
  named = record {
    root = refl;
    listen = (codes "1.2.3.4:69", refl, its_name);
    others = tt;
    apart = (tt, tt);
    ports = refl;
    requests_only = refl;
    per_client = refl;
    limits = record { max_block = refl; max_file = refl; retries = refl; cap = refl; overwrite = refl };
    read_only = refl;
    uploads = refl;
    longest = refl;
    length_memory = refl;
    backoff = refl;
    ending = Ends_after refl refl refl;
    drain = refl;
    status = refl;
    logs = refl;
    log_times = refl;
    instance = record { servers = (inr refl, (omega arith, omega arith)); server = refl };
  };
  status = tt;
  together = record {
    transfers = λ on. refl;
    rounds = λ on. refl;
    uploads = λ on. refl;
    log = λ on. absurd (true≢false (sym on));
    most = omega arith;
    ports = tt;
    forever = λ several. absurd (is_one several);
    alone = λ several. refl;
    bound = λ some. absurd (some refl);
    handed = λ some. absurd (true≢false (sym some));
  };
}

-- ---- the states
abbrev pub Loop : Type 0
Loop = LoopState Store Source Draft

abbrev pub Held : Type 0
Held = TransferState Source Draft

abbrev pub getter : Endpoint
getter = record { ip = 5 ∷ 6 ∷ 7 ∷ 8 ∷ []; port = 5000 }

abbrev pub putter : Endpoint
putter = record { ip = 5 ∷ 6 ∷ 7 ∷ 8 ∷ []; port = 5001 }

abbrev pub no_options : Asked
no_options = record { blksize = None; timeout = None; tsize = None }

abbrev pub read_request : List ℕ
read_request = canonical (Read (request_of read_name Octet no_options))

abbrev pub write_request : List ℕ
write_request = canonical (Write (request_of write_name Octet no_options))

abbrev pub serving : Store → List (ℕ × Held) → ServerState Store Source Draft
serving its_store held = record { config = limits; store = its_store; held = held }

abbrev pub service : LoopConfig
service = service_at config server

abbrev pub timed : Endpoint → Bool → (look_at received : ℕ) → Timer
timed peer marked look_at received = record {
  port = 1024;
  peer = peer;
  interval = 1;
  backoff = Constant;
  timeouts = 0;
  deadline = 1000;
  marked = marked;
  look_at = look_at;
  provisional = true;
  age_limit = last_moment;
  received = received;
}

abbrev pub reading : EndState
reading = serving_read [] getter Octet 1 1 (65 ∷ [])

abbrev pub completes : Turn
completes = response_turn Complete getter reading

abbrev pub read_by : EndState → Held
read_by end = record { end = end; files = A_source read; path = read_name; request = read_request }

abbrev pub s0 : Loop
s0 = at_start service 69 (serving store []) 0 (listening server.ip 69 [])

abbrev pub asked : Endpoint → List ℕ → Loop
asked from request =
    record s0 { pending = Some (from, request); asked = true; events = Received 69 from request ∷ s0.events }

abbrev pub g1 : Loop
g1 = asked getter read_request

abbrev pub g2 : Loop
g2 = record g1 {
  server = serving store ((1024, read_by reading) ∷ []);
  pending = None;
  timers = timed getter false 500 0 ∷ [];
  events = Sent 1024 getter (data_bytes 1 (65 ∷ [])) ∷ g1.events;
}

abbrev pub g3 : Loop
g3 = record g2 {
  server = serving store ((1024, read_by (after_turn reading completes)) ∷ []);
  timers = timed getter false 500 1 ∷ [];
  events = Received 1024 getter (ack_bytes 1) ∷ g2.events;
}

abbrev pub g4 : Loop
g4 = record g3 {
  server = serving store [];
  timers = [];
  left = 0;
  events = Printed (line_text (Closed 1024 5000 outcomes.Complete)) ∷ g3.events;
}

-- ---- the steps
abbrev pub Step : Loop → Loop → Type 0
Step old new = LoopStep stores sources old new

pub may_read : MayGet read_name Octet no_options
may_read = record { valid = search rules; options = search rules }

pub read_spelled : Spells (Read (request_of read_name Octet no_options)) read_request
read_spelled = record { valid = may_read.valid; word = 111 ∷ 99 ∷ 116 ∷ 101 ∷ 116 ∷ []; mode = refl; whole = refl }

pub ack_spelled : (number : ℕ) → number < 2 ^ 16 → Spells (Ack number) (ack_bytes number)
ack_spelled number fits = record { valid = fits; word = []; mode = refl; whole = refl }

pub block_spelled : (byte : ℕ) → Spells (Data 1 (byte ∷ [])) (data_bytes 1 (byte ∷ []))
block_spelled byte =
    record { valid = (λ e. omega (arith, e), omega arith, omega arith); word = []; mode = refl; whole = refl }

unfoldable pub asks_to_read : Step s0 g1
asks_to_read = Request_received
    (record { from = getter; bytes = read_request; none = refl; goes_on = refl; first = refl; is = refl })

pub reads_file : AsksToRead stores sources (serving store []) getter read_request read_name Octet
    (request_of read_name Octet no_options).options (A_transfer (read_by reading) store)
unfolding occurrences_of name_of answered_option
reads_file = record {
  file = Ok (record { source = opened; length = 1 });
  opens = tt;
  refused = tt;
  must = λ fault m. absurd (let f : ⊥ = m in f);
  reads = λ want f. absurd (let g : ⊥ = f in g);
  opened = opens;
  memory = λ e. absurd (cc);
  goes_on = inl (record {
    rest = read;
    end = reading;
    serves = (
      65 ∷ [],
      record {
        fills = record { piece = 65 ∷ []; given = refl; count = refl; bound = omega arith };
        read = λ e. absurd (cc);
        fails = λ f. absurd (true≢false (sym f));
        memory = λ e. absurd (cc);
      },
      refl,
      gave,
    );
    opens = refl;
  });
}

unfoldable pub opens_read : Step g1 g2
unfolding occurrences_of name_of answered_option
opens_read = Request_answered (record {
  from = getter;
  bytes = read_request;
  pending = refl;
  handled = λ only. absurd (true≢false (sym only));
  few = refl;
  tid = 1024;
  free = refl;
  left = left_by (A_transfer (read_by reading) store) (serving store []) getter 1024;
  port = tt;
  own = λ same. absurd (omega (arith, same));
  set = refl;
  steps = record {
    decoded = Some (Read (request_of read_name Octet no_options));
    says = read_spelled;
    repeated = false;
    repeats = (λ f. absurd (true≢false (sym f)), λ none. absurd none);
    came = A_transfer (read_by reading) store;
    goes = reads_file;
    left = refl;
  };
  is = refl;
})

-- the block is acknowledged, and the transfer closes
pub is_acknowledged : StepIn stores sources getter (ack_bytes 1) reading (A_source read) completes (A_source read)
is_acknowledged = record { decoded = Some (Ack 1); says = ack_spelled 1 (omega arith); acts = (refl, refl); again = tt }

unfoldable pub completes_read : Step g2 g3
completes_read =
    handles g2 0 (timed getter false 500 0) (read_by reading) getter (ack_bytes 1) completes Nothing store (A_source read)
    (omega arith) (omega arith) (omega arith) refl refl refl is_acknowledged refl refl tt

unfoldable pub closes_read : Step g3 g4
closes_read = Transfer_closed (record {
  index = 0;
  timer = timed getter false 500 1;
  within = omega arith;
  is_timer = refl;
  taken = (record_of (after_turn reading completes), None);
  is_taken = refl;
  outcome = outcomes.Complete;
  has_outcome = refl;
  left = omega arith;
  is = refl;
})

abbrev pub gets : Run (LoopStep stores sources) s0 g4
gets = Then (Then (Then (Then Start asks_to_read) opens_read) completes_read) closes_read

-- ---- the put
abbrev pub receiving : EndState
receiving = serving_write [] putter Octet 1

abbrev pub done : Done
done = tt

abbrev pub keeps : Turn
keeps = committed_turn (default_terms putter) 1 putter receiving (Ok done)

abbrev pub received : EndState
received = after_turn receiving keeps

abbrev pub written_by : EndState → Draft → Held
written_by end its_draft = record { end = end; files = Sink its_draft; path = write_name; request = write_request }

abbrev pub p1 : Loop
p1 = asked putter write_request

abbrev pub p2 : Loop
p2 = record p1 {
  server = serving begun ((1024, written_by receiving draft) ∷ []);
  pending = None;
  timers = timed putter false 500 0 ∷ [];
  events = Sent 1024 putter (ack_bytes 0) ∷ p1.events;
}

abbrev pub p3 : Loop
p3 = record p2 {
  server = serving ended ((1024, written_by received whole) ∷ []);
  timers = timed putter false 500 1 ∷ [];
  events = Sent 1024 putter (ack_bytes 1) ∷ Received 1024 putter (data_bytes 1 (66 ∷ [])) ∷ p2.events;
}

pub may_write : MayPut write_name Octet no_options 1
may_write = record { valid = search rules; options = search rules; fits = ltb-true 1 (65535 * 512) refl }

pub write_spelled : Spells (Write (request_of write_name Octet no_options)) write_request
write_spelled = record { valid = may_write.valid; word = 111 ∷ 99 ∷ 116 ∷ 101 ∷ 116 ∷ []; mode = refl; whole = refl }

pub begins_draft : AsksToWrite stores sources (serving store []) putter write_request write_name Octet []
    (A_transfer (written_by receiving draft) begun)
begins_draft = record {
  store = begun;
  draft = Ok draft;
  begins = tt;
  refused = tt;
  begun = begins;
  memory = λ e. absurd (cc);
  goes_on = refl;
}

unfoldable pub asks_to_write : Step s0 p1
asks_to_write = Request_received
    (record { from = putter; bytes = write_request; none = refl; goes_on = refl; first = refl; is = refl })

unfoldable pub opens_write : Step p1 p2
unfolding occurrences_of name_of answered_option
opens_write = Request_answered (record {
  from = putter;
  bytes = write_request;
  pending = refl;
  handled = λ only. absurd (true≢false (sym only));
  few = refl;
  tid = 1024;
  free = refl;
  left = left_by (A_transfer (written_by receiving draft) begun) (serving store []) putter 1024;
  port = tt;
  own = λ same. absurd (omega (arith, same));
  set = refl;
  steps = record {
    decoded = Some (Write (request_of write_name Octet no_options));
    says = write_spelled;
    repeated = false;
    repeats = (λ f. absurd (true≢false (sym f)), λ none. absurd none);
    came = A_transfer (written_by receiving draft) begun;
    goes = begins_draft;
    left = refl;
  };
  is = refl;
})

pub stores_block : StepIn stores sources putter (data_bytes 1 (66 ∷ [])) receiving
    (files_in begun write_name false (Sink draft)) keeps (files_in ended write_name false (Sink whole))
stores_block = record {
  decoded = Some (Data 1 (66 ∷ []));
  says = block_spelled 66;
  acts = (
    66 ∷ [],
    block_spelled 66,
    record {
      bytes = 66 ∷ [];
      after = [];
      mid = record { store = begun; draft = filled; path = write_name; replace = false };
      answer = Ok done;
      decoded = (refl, refl);
      appended = (
        tt,
        tt,
        record { path = refl; replace = refl; files = refl },
        (appends, λ e. absurd (let f : None ≡ Some Memory = e in cc)),
      );
      memory = λ e. absurd (cc);
      rest = record {
        answer = Ok done;
        commits = tt;
        refused = tt;
        leaves = record { path = refl; replace = refl; files = tt };
        effect = commits;
        answers = refl;
      };
    },
  );
  again = tt;
}

unfoldable pub stores_write : Step p2 p3
stores_write =
    handles p2 0 (timed putter false 500 0) (written_by receiving draft) putter (data_bytes 1 (66 ∷ [])) keeps
    LastSent ended (Sink whole) (omega arith) (omega arith) (omega arith) refl refl refl stores_block refl tt tt

abbrev pub puts : Run (LoopStep stores sources) s0 p3
puts = Then (Then (Then Start asks_to_write) opens_write) stores_write

-- ---- the runs
pub agreeable : IsBlockSize limits.limits.max_block
agreeable = search rules

pub is_server : IsServerOf its_calls [] config (serving store [])
is_server = record {
  valid = record { max_block = agreeable; retries = omega arith; some = omega arith; cap = omega arith };
  limits = refl;
  empty = refl;
  root = its_root;
  read_only = refl;
  uploads = refl;
  drafts = refl;
  unchanged = refl;
  inside = stays_inside;
  lengths = refl;
}

pub is_bound : IsBoundTo server server.ip 69
is_bound = record { same_ip = refl; same_port = λ other. refl; has_port = λ e. absurd (omega (arith, e)) }

unfoldable pub serves_get : ServesWords its_calls [] stores sources words 0 [] g4.events
serves_get = inr (
  config,
  configured,
  record {
    alone = omega arith;
    at_one_address = refl;
    at = server;
    listens = refl;
    server = serving store [];
    is_server = is_server;
    runs = record {
      result = Ok tt;
      is_status = refl;
      serves = Bound 69 is_bound (record { reading = 0; last = g4; run = gets; noted = refl; ends = inl refl });
    };
  },
)

abbrev pub put_events : List SocketEvent
put_events = Quiet No_reader ∷ p3.events

unfoldable pub serves_put : ServesWords its_calls [] stores sources words 2 [] put_events
serves_put = inr (
  config,
  configured,
  record {
    alone = omega arith;
    at_one_address = refl;
    at = server;
    listens = refl;
    server = serving store [];
    is_server = is_server;
    runs = record {
      result = Err NoReader;
      is_status = refl;
      serves = Bound 69 is_bound (record { reading = 0; last = p3; run = puts; noted = refl; ends = inr (inl refl) });
    };
  },
)

pub some_serve : SomeServe
some_serve = (g4.events, put_events, serves_get, serves_put)
