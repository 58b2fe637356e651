-- The runs of the witness are programs that an honest network joined: a get, and a put.
use Rattle.tftp_words.proofs.Common.{rules, ◌≡◌, refl, subst, ℕ, List, [], ◌∷◌, Some, Ok, Err, true, arith, suc, ◌≢◌}
use Rattle.tftp_words.proofs.Common.{codes, Sink, MAX_WIRE, Endpoint, Received, Sent, printed}
use Rattle.tftp_words.proofs.Common.{local_sink, local_source, sources, stores, ArePortsFresh, our_ports, IsStranger}
use Rattle.tftp_words.proofs.Common.{Noted, Programs, events_of, ClientProgram, ServerProgram, To_read, To_write}
use Rattle.tftp_words.proofs.Common.{endpoint, ClientStored, ran_of, ClientSent, run_of, AllAsk, AreAllRuns, AreRunsOf}
use Rattle.tftp_words.proofs.Common.{IsServerRan, each, honest_if, server, same_Some, ◌++◌, Result, slice_get}
use Rattle.tftp_words.proofs.Common.{SocketEvent, Run, LoopStep, noted_at_end, LoopFault, ServesWords}
use Rattle.std.proofs.Common.{reverse}
use Rattle.clap.proofs.OnLiterals.{clap_on_literals}
use Rattle.tftp_wire.specs.declared.mode.Mode.TheVariants.{Octet}
use Rattle.tftp_ends.specs.Step.{ack_bytes, data_bytes}
use Rattle.tftp_ends.specs.declared.backoff.Backoff.TheVariants.{Constant}
use Rattle.tftp_lines.specs.ClientOutcome.{end_text}
use Rattle.tftp_lines.specs.Printed.{line_text}
use Rattle.tftp_lines.specs.declared.printed.Printed.TheVariants.{Closed}
use Rattle.tftp_sockets.specs.Trace.SocketEvent.{Printed, Quiet, Watched}
use Rattle.tftp_sockets.specs.Trace.QuietEvent.{Slept}
use Rattle.tftp_loop.specs.declared.serving.LoopFault.TheVariants.{NoReader}
use Rattle.tftp_client.specs.Converses.HandlesReceived.{Answers}
use Rattle.tftp_client.specs.Witness.{get_words, put_words}
use Rattle.tftp_daemon.specs.Witness.{words, its_calls}
use Rattle.tftp_promises.specs.ClientRuns.{ClientDoes, Goes_on, Prints_line, Reads_clock, Receives_one, Starts}
use Rattle.tftp_promises.specs.Order.{ips}
use Rattle.tftp_words.specs.Witness.{A_client, A_server, MeetAll}
use Rattle.tftp_promises.proofs.TwoAlone.{Delivers, comes_from, fresh_of_two, two_alone}
use Rattle.std.proofs.NetLemmas.Theorems.{IsSocketV4Text_unique}
use Rattle.tftp_sockets.specs.Address.{Names}
use Rattle.tftp_lines.specs.declared.client_outcome.ClientOutcome.TheVariants as ends
use Rattle.tftp_ends.specs.declared.outcome.Outcome.TheVariants as outcomes
use Rattle.tftp_loop.proofs.WitnessPort.{handles}
use Rattle.tftp_sockets.proofs.WitnessAddress.{its_name}
use Rattle.tftp_client.proofs.Witness as cl
use Rattle.tftp_daemon.proofs.WitnessFolder as fo
use Rattle.tftp_daemon.proofs.WitnessServers as sv

-- ---- the commands
abbrev pub client_ip : List ℕ
client_ip = 5 ∷ 6 ∷ 7 ∷ 8 ∷ []

abbrev its_server : (status : ℕ) (after : List SocketEvent) →
    ServesWords its_calls [] stores sources words status [] after → A_server
its_server status after ran =
    record { ip = server.ip; words = words; status = status; before = []; after = after; ran = ran }

abbrev pub get_server : A_server
get_server = its_server 0 sv.g4.events sv.serves_get

abbrev pub put_server : A_server
put_server = its_server 2 sv.put_events sv.serves_put

abbrev pub get_client : ClientStored local_source local_sink
get_client = record {
  ip = client_ip;
  words = get_words;
  status = 0;
  before = [];
  after = cl.get_after;
  calls = cl.given;
  stored = cl.get_stored;
}

abbrev pub put_client : ClientSent local_source local_sink
put_client = record { ip = client_ip; words = put_words; status = 0; before = []; after = cl.put_after; sent = cl.put_sent }

abbrev pub get_ran : A_client
get_ran = ran_of local_source local_sink get_client

abbrev pub put_ran : A_client
put_ran = run_of local_source local_sink put_client

-- ---- what the arguments name
one_named : (text : List ℕ) (a b : Endpoint) → Names text (Some a) → Names text (Some b) → a ≡ b
one_named text a b first second =
    let same = IsSocketV4Text_unique text first.0 second.0 first.1 second.1 in
    let one = first.2 in
    let other = second.2 in
    let ip : a.ip ≡ b.ip = cc in
    let port : a.port ≡ b.port = cc in
    λ i. record { ip = ip i; port = port i }

named_server : (text : List ℕ) (a : Endpoint) → Some (codes "1.2.3.4:69") ≡ Some text → Names text (Some a) → a ≡ server
named_server text a same names =
    one_named text a server names
    (subst (λ (word : List ℕ). Names word (Some server)) (same_Some (codes "1.2.3.4:69") text same) its_name)

pub asks_get : AllAsk server (get_ran ∷ [])
unfolding clap_on_literals
asks_get = (λ job named. named_server named.server.0 job.server named.server.1 named.server.2, tt)

pub asks_put : AllAsk server (put_ran ∷ [])
unfolding clap_on_literals
asks_put = (λ job named. named_server named.server.0 job.server named.server.1 named.server.2, tt)

-- ---- the programs
abbrev pub requests : Endpoint
requests = endpoint server.ip 69

module _ (last : sv.Loop) (run : Run (LoopStep stores sources) sv.s0 last) (noted : List SocketEvent)
    (is_noted : last.events ≡ noted ++ sv.s0.events) where
  abbrev its_program : ServerProgram stores sources requests
  its_program = record {
    start = sv.s0;
    last = last;
    run = run;
    noted = noted;
    is_noted = is_noted;
    requests = refl;
    empty = refl;
    idle = refl;
    max_block = sv.agreeable;
  }

  -- it is what the command ran
  pub its_run : {status : ℕ} {after : List SocketEvent}
      (ran : ServesWords its_calls [] stores sources words status [] after) (result : Result (Unit {0}) LoopFault) →
      after ≡ noted_at_end result (noted ++ sv.s0.events) → IsServerRan (its_server status after ran) 69 its_program
  its_run ran result is = record {
    address = refl;
    requests = refl;
    config = sv.config;
    named = sv.configured;
    limits = refl;
    root = fo.its_root;
    at = server;
    listens = refl;
    bound = sv.is_bound;
    begins = refl;
    result = result;
    noted = is;
  }

abbrev pub gives : ServerProgram stores sources requests
gives = its_program sv.g4 sv.gets (
    Printed (line_text (Closed 1024 5000 outcomes.Complete)) ∷ Received 1024 sv.getter (ack_bytes 1)
    ∷ Sent 1024 sv.getter (data_bytes 1 (65 ∷ [])) ∷ Received 69 sv.getter sv.read_request ∷ []) refl

abbrev pub keeps : ServerProgram stores sources requests
keeps = its_program sv.p3 sv.puts (
    Sent 1024 sv.putter (ack_bytes 1) ∷ Received 1024 sv.putter (data_bytes 1 (66 ∷ []))
    ∷ Sent 1024 sv.putter (ack_bytes 0) ∷ Received 69 sv.putter sv.write_request ∷ []) refl

unfoldable pub stores_does : ClientDoes local_source local_sink 5000 cl.s0 (Sink cl.new_local) cl.s1 (Sink cl.stored_local)
stores_does =
    Receives_one {watch = cl.at_10} (record { not_closed = cl.still_open; due = λ late. absurd (omega (arith, late)) })
    (record { time = refl; forward = omega arith }) (Answers cl.still_open cl.stores_so)

abbrev pub getting : ClientProgram local_source local_sink requests
getting = record {
  ip = client_ip;
  port = 5000;
  reading = 0;
  backoff = Constant;
  first = cl.at_first;
  before = [];
  last = printed (end_text (ends.Complete 1)) cl.s2;
  files = Sink cl.stored_local;
  file = Sink cl.new_local;
  runs =
      Goes_on (Goes_on (Goes_on Starts stores_does) (Reads_clock true {watch = cl.at_10} (record { time = refl; forward = omega arith })))
      (Prints_line (end_text (ends.Complete 1)));
  opens = To_read (record {
    name = codes "a";
    mode = Octet;
    asked = cl.no_options;
    limit = MAX_WIRE;
    retries = 5;
    may = cl.may_get;
    is = refl;
    sink = cl.new_local;
    is_file = refl;
  });
  noted = cl.get_after;
  is_noted = refl;
}

unfoldable pub sends_does : ClientDoes local_source local_sink 5001 cl.p0 cl.whole_file cl.p1 cl.given_file
sends_does =
    Receives_one {watch = cl.at_10} (record { not_closed = cl.not_yet; due = λ late. absurd (omega (arith, late)) })
    (record { time = refl; forward = omega arith }) (Answers cl.not_yet cl.sends_so)

unfoldable pub completes_does : ClientDoes local_source local_sink 5001 cl.p2 cl.given_file cl.p3 cl.given_file
completes_does =
    Receives_one {watch = cl.at_20} (record { not_closed = cl.still_sending; due = λ late. absurd (omega (arith, late)) })
    (record { time = refl; forward = omega arith }) (Answers cl.still_sending cl.completes_so)

abbrev pub putting : ClientProgram local_source local_sink requests
putting = record {
  ip = client_ip;
  port = 5001;
  reading = 0;
  backoff = Constant;
  first = cl.put_first;
  before = [];
  last = printed (end_text (ends.Complete 1)) cl.p4;
  files = cl.given_file;
  file = cl.whole_file;
  runs =
      Goes_on (Goes_on (Goes_on (Goes_on (Goes_on Starts sends_does)
      (Reads_clock true {watch = cl.at_10} (record { time = refl; forward = omega arith }))) completes_does)
      (Reads_clock true {watch = cl.at_20} (record { time = refl; forward = omega arith })))
      (Prints_line (end_text (ends.Complete 1)));
  opens = To_write (record {
    name = codes "b";
    mode = Octet;
    asked = cl.no_options;
    length = 1;
    limit = MAX_WIRE;
    retries = 5;
    may = cl.may_put;
    is = refl;
    source = cl.unread;
    is_file = refl;
  });
  noted = cl.put_after;
  is_noted = refl;
}

-- ---- they are what the commands ran
pub gives_ran : IsServerRan get_server 69 gives
gives_ran = its_run sv.g4 sv.gets gives.noted refl sv.serves_get (Ok tt) refl

pub keeps_ran : IsServerRan put_server 69 keeps
keeps_ran = its_run sv.p3 sv.puts keeps.noted refl sv.serves_put (Err NoReader) refl

pub gets_of : AreRunsOf get_ran (getting ∷ [])
unfolding cl.get_stored cl.get_runs cl.stores_so stores_does
gets_of = record {
  noted = (refl, refl);
  each = (record { address = refl; job = cl.get_job; named = cl.get_named; runs = search rules }, tt);
  last = ([], getting, refl, search rules, search rules, refl);
  stopped = tt;
}

pub getting_ran : AreAllRuns (get_ran ∷ []) (getting ∷ [])
getting_ran = (getting ∷ [], [], refl, gets_of, refl)

pub putting_ran : AreAllRuns (put_ran ∷ []) (putting ∷ [])
unfolding cl.put_sent cl.put_runs cl.sends_so cl.completes_so sends_does completes_does
putting_ran = (
  putting ∷ [],
  [],
  refl,
  record {
    noted = (refl, refl);
    each = (record { address = refl; job = cl.put_job; named = cl.put_named; runs = search rules }, tt);
    last = ([], putting, refl, search rules, search rules, refl);
    stopped = tt;
  },
  refl,
)

-- ---- a server and a client alone
abbrev pub Both : Type 0
Both = Programs stores sources local_source local_sink

abbrev pub with_server : ServerProgram stores sources requests → ClientProgram local_source local_sink requests → Both
with_server s c = two_alone server.ip 69 s c

pub away : client_ip ≢ server.ip
away = search rules

pub fresh_with : (s : ServerProgram stores sources requests) (c : ClientProgram local_source local_sink requests) →
    our_ports (with_server s c) s.run ≡ 1024 ∷ [] → c.ip ≢ server.ip → ArePortsFresh (with_server s c)
fresh_with s c = fresh_of_two server.ip 69 s c 1024 (λ e. absurd (omega (arith, e)))

-- ---- the orders of their events, by the numbers of the server and the client, and what they deliver
abbrev pub get_order : (server client : ℕ) → List Noted
get_order s c = reverse (
    (c, Sent 5000 requests sv.read_request) ∷ (s, Received 69 sv.getter sv.read_request)
    ∷ (s, Sent 1024 sv.getter (data_bytes 1 (65 ∷ []))) ∷ (c, Quiet (Slept 1000))
    ∷ (c, Received 5000 cl.answers_from (data_bytes 1 (65 ∷ []))) ∷ (c, Watched cl.at_10)
    ∷ (c, Sent 5000 cl.answers_from (ack_bytes 1)) ∷ (c, Watched cl.at_10) ∷ (c, Printed (end_text (ends.Complete 1)))
    ∷ (s, Received 1024 sv.getter (ack_bytes 1)) ∷ (s, Printed (line_text (Closed 1024 5000 outcomes.Complete))) ∷ [])

abbrev pub put_order : (server client : ℕ) → List Noted
put_order s c = reverse (
    (c, Sent 5001 requests sv.write_request) ∷ (s, Received 69 sv.putter sv.write_request)
    ∷ (s, Sent 1024 sv.putter (ack_bytes 0)) ∷ (c, Quiet (Slept 1000)) ∷ (c, Received 5001 cl.answers_from (ack_bytes 0))
    ∷ (c, Watched cl.at_10) ∷ (c, Sent 5001 cl.answers_from (data_bytes 1 (66 ∷ []))) ∷ (c, Watched cl.at_10)
    ∷ (s, Received 1024 sv.putter (data_bytes 1 (66 ∷ []))) ∷ (s, Sent 1024 sv.putter (ack_bytes 1)) ∷ (c, Quiet (Slept 1000))
    ∷ (c, Received 5001 cl.answers_from (ack_bytes 1)) ∷ (c, Watched cl.at_20) ∷ (c, Watched cl.at_20)
    ∷ (c, Printed (end_text (ends.Complete 1))) ∷ [])

module _ (ips : List (List ℕ)) (Strange : Endpoint → Type 0) (s c : ℕ) (at_server : slice_get ips s ≡ Some server.ip)
    (at_client : slice_get ips c ≡ Some client_ip) (earlier : List Noted) (delivers : Delivers ips Strange earlier) where
  pub get_delivers : Delivers ips Strange (get_order s c ++ earlier)
  get_delivers = (
    comes_from ips Strange c s at_client at_server (2, omega arith, refl),
    (
      comes_from ips Strange s c at_server at_client (1, omega arith, refl),
      (comes_from ips Strange c s at_client at_server (0, omega arith, refl), delivers),
    ),
  )

  pub put_delivers : Delivers ips Strange (put_order s c ++ earlier)
  put_delivers = (
    comes_from ips Strange s c at_server at_client (1, omega arith, refl),
    (
      comes_from ips Strange c s at_client at_server (1, omega arith, refl),
      (
        comes_from ips Strange s c at_server at_client (1, omega arith, refl),
        (comes_from ips Strange c s at_client at_server (0, omega arith, refl), delivers),
      ),
    ),
  )

-- ---- the get

abbrev pub got : Both
got = with_server gives getting

pub get_ports : our_ports got sv.gets ≡ 1024 ∷ []
unfolding sv.asks_to_read sv.opens_read sv.completes_read sv.closes_read handles
get_ports = refl

pub get_meets : MeetAll get_server get_ran
unfolding sv.serves_get cl.get_stored
get_meets = record {
  done = refl;
  port = 69;
  is_port = refl;
  ask = asks_get;
  programs = got;
  are_ran = record { of_server = gives_ran; of_clients = getting_ran; alone = refl };
  order = get_order 0 1;
  is_order = record { server = refl; clients = each getting (λ k c. events_of (suc k) (get_order 0 1) ≡ c.noted) refl };
  honest =
      honest_if (ips got) (IsStranger got) (get_order 0 1) (get_delivers (ips got) (IsStranger got) 0 1 refl refl [] tt);
  fresh = fresh_with gives getting get_ports away;
}

-- ---- the put
abbrev pub put : Both
put = with_server keeps putting

pub put_ports : our_ports put sv.puts ≡ 1024 ∷ []
unfolding sv.asks_to_write sv.opens_write sv.stores_write handles
put_ports = refl

pub put_meets : MeetAll put_server put_ran
unfolding sv.serves_put cl.put_sent
put_meets = record {
  done = refl;
  port = 69;
  is_port = refl;
  ask = asks_put;
  programs = put;
  are_ran = record { of_server = keeps_ran; of_clients = putting_ran; alone = refl };
  order = put_order 0 1;
  is_order = record { server = refl; clients = each putting (λ k c. events_of (suc k) (put_order 0 1) ≡ c.noted) refl };
  honest =
      honest_if (ips put) (IsStranger put) (put_order 0 1) (put_delivers (ips put) (IsStranger put) 0 1 refl refl [] tt);
  fresh = fresh_with keeps putting put_ports away;
}
