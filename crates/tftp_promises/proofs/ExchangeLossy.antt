-- The programs of the exchange are joined, and meet the premises of bounded loss, though a datagram was lost.
use Rattle.tftp_promises.proofs.Common.{List, ℕ, ◌≡◌, rules, Endpoint, refl, [], ◌∙◌, ap, inl, ◌∷◌, false, true, ◌++◌}
use Rattle.tftp_promises.proofs.Common.{Programs, Bool, EndState, arith, ◌≢◌, suc, IsStranger, ◌≤◌, ◌+◌, our_ports}
use Rattle.tftp_promises.proofs.Common.{AreJoined, events_of, TakesOwn, acts_in, HasOpened, Took, acts_at, Said}
use Rattle.tftp_promises.proofs.Common.{ServesClient, IsHonest, ips, memory_source, WasHeld, OneAct, reader}
use Rattle.tftp_promises.proofs.Common.{memory_meaning, memory_sink, read_port, client_ip, AreBounded}
use Rattle.std.proofs.Common.{reverse, rules as std_rules}
use Rattle.std.specs.Prelude.{get_or}
use Rattle.tftp_lives.specs.Outlasting.{ArriveInTime, AnswersPromptly, acts_of, timeouts}
use Rattle.tftp_lives.proofs.OneOrder.{timeouts_append}
use Rattle.tftp_promises.specs.Witness.{server_ip, SomeOutlastLoss, exchange, lossy_acts}
use Rattle.tftp_promises.proofs.ExchangeReader.{read_spelled, accepts_does, dallying, reading, stored, stores_does}
use Rattle.tftp_promises.proofs.ExchangeReader.{times_does, waits_does}
use Rattle.tftp_loop.proofs.WitnessPort.{handles}
use Rattle.tftp_promises.proofs.ExchangeServer.{asks_to_read, completes_read, opens_read, sends_block, server}
use Rattle.tftp_promises.proofs.ExchangeServer.{serves as serves_reader, read_by, reading_2, s4}
use Rattle.tftp_promises.proofs.OthersTaken.{takes_none}
use Rattle.tftp_promises.proofs.TwoAlone.{comes_from, each, fresh_of_two, honest_if, two_alone}

-- ---- the programs
abbrev programs : Programs memory_meaning memory_source memory_source memory_sink
programs = two_alone server_ip 69 server reading

away : client_ip ≢ server_ip
away e = let n : 2 ≡ 1 = ap (λ (ip : List ℕ). get_or ip 3 0) e in omega (arith, n)

one_port : our_ports programs serves_reader ≡ 1024 ∷ []
unfolding handles asks_to_read opens_read sends_block completes_read
one_port = refl

-- what came had been sent just before, or one event before that
honest : IsHonest programs (reverse exchange)
honest = honest_if (ips programs) (IsStranger programs) (reverse exchange) (
  comes_from _ (IsStranger programs) 1 0 refl refl (0, omega arith, refl),
  (
    comes_from _ (IsStranger programs) 0 1 refl refl (1, omega arith, refl),
    (
      comes_from _ (IsStranger programs) 1 0 refl refl (0, omega arith, refl),
      (comes_from _ (IsStranger programs) 0 1 refl refl (1, omega arith, refl), (comes_from _ (IsStranger programs) 1 0 refl refl (0, omega arith, refl), tt)),
    ),
  ),
)

joined : AreJoined programs (reverse exchange)
joined = record {
  is_order = record { server = refl; clients = each reading (λ k c. events_of (suc k) (reverse exchange) ≡ c.noted) refl };
  honest = honest;
  fresh = fresh_of_two server_ip 69 server reading 1024 (λ e. omega (arith, e)) one_port away;
  own = each reading (λ k c. TakesOwn server_ip [] c.runs) (takes_none server_ip reading.runs);
}

-- ---- the transfer
opened_there : HasOpened programs 1024 (read_by reading_2 []) read_port
unfolding handles asks_to_read opens_read sends_block completes_read
opened_there = inl (refl, refl)

abbrev serves : ServesClient programs read_port reading
serves = record {
  port = 1024;
  transfer = read_by reading_2 [];
  opened = opened_there;
  server = refl;
  peer = refl;
  other = refl;
  asked = read_spelled;
  path = refl;
}

abbrev was : WasHeld programs 1024 (read_by reading_2 [])
was = record { state = s4; run = serves_reader; held = refl; since = []; is_since = refl }

-- ---- loss
-- there is one timeout
few : (later rest : List OneAct) → lossy_acts ≡ later ++ rest → timeouts later ≤ 1
few later rest e =
    let one : timeouts lossy_acts ≡ 1 = refl in
    let all : timeouts lossy_acts ≡ timeouts later + timeouts rest = ap timeouts e ∙ timeouts_append later rest in
    omega (arith, one, all)

arrive : (x y : Bool) (a b : Endpoint) (e : EndState) → ArriveInTime lossy_acts 1 x y a b e
arrive x y a b e later earlier bytes is long = search (rules, few)

promptly : (y : Bool) (a : Endpoint) → AnswersPromptly lossy_acts 1 y a
promptly y a later between earlier answer bytes is none =
    let rest = (y, Said a answer) ∷ (between ++ (y, Took a bytes) ∷ earlier) in
    let one : timeouts lossy_acts ≡ 1 = refl in
    let all : timeouts lossy_acts ≡ timeouts later + timeouts rest = ap timeouts is ∙ timeouts_append later rest in
    let said = said_none y (between ++ (y, Took a bytes) ∷ earlier) in
    let parts = timeouts_append between ((y, Took a bytes) ∷ earlier) in
    omega (arith, one, all, said, parts)
  where
    said_none : (who : Bool) (order : List OneAct) → timeouts ((who, Said a answer) ∷ order) ≡ timeouts order
    said_none who order = refl

client_did : acts_of true lossy_acts ≡ acts_in reading.runs
unfolding accepts_does waits_does times_does stores_does
client_did = refl

server_did : acts_of false lossy_acts ≡ acts_at 1024 serves_reader
unfolding handles asks_to_read opens_read sends_block completes_read
server_did = refl

bounded : AreBounded programs reading read_port serves was lossy_acts 1 1
bounded = record {
  client_acts = client_did;
  server_acts = server_did;
  bounded =
      search (std_rules, arrive, true, false, reader, read_port, read_by, reading_2, dallying, promptly);
}

pub some_outlast : SomeOutlastLoss
some_outlast = (
  programs,
  record {
    joined = joined;
    reads = reading;
    is_reader = refl;
    peer = refl;
    serves = serves;
    was = was;
    bounded = bounded;
    has_read = refl;
    has_sent = refl;
    sink = stored;
    is_sink = refl;
    holds = refl;
    committed = refl;
  },
)
