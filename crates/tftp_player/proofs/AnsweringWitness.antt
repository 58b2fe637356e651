-- Transfers that recover before their client has a peer: a first datagram was lost, or a request.
-- For the law a_transfer_recovers, which is then of some runs.
use Rattle.tftp_player.proofs.Common.{◌≡◌, false, [], ◌∷◌, Some, refl, arith, rules, inl, inr, slice_get, Kind}
use Rattle.tftp_player.proofs.Common.{sending_end, receiving_end, IsReached, service, IsAccepted, WorldState}
use Rattle.tftp_player.proofs.Common.{sent_report, opened_in, datagram, HasPort, WorldStep, ServiceStep}
use Rattle.tftp_player.proofs.Common.{At_request_port, Deliver, packet_in, IsRepeated}
use Rattle.tftp_negotiate.specs.Options.{number_of, name_of}
use Rattle.tftp_negotiate.specs.declared.known.Kind.TheVariants.{Read, Write}
use Rattle.tftp_player.specs.Recovering.{SomeReadRecovers, SomeWriteRecovers, SomeReadRequestRecovers}
use Rattle.tftp_player.specs.Recovering.{SomeWriteRequestRecovers}
use Rattle.tftp_player.proofs.SampleDeliveries.{spells, world_at, reports, settles, behaves, timed_by}
use Rattle.tftp_player.proofs.Witness.{config, asked_world, begun_world, client_for, Sample, Runs, opens, name}
use Rattle.tftp_player.proofs.Witness.{request_for, server_for, service_for, is_to_port, reached_by}
use Rattle.tftp_player.proofs.Witnesses.{blocks, blocks_run, oack, oack_runs}
use Rattle.tftp_negotiate.specs.Answer.{answered_option}
use Rattle.std.specs.Fmt.{digits}
use Rattle.tftp_negotiate.specs.Negotiation.{occurrences_of}
use Rattle.tftp_negotiate.specs.Agreement.{taken_option}

-- ---- the first datagram of the server's end is lost
-- events lead to the world in which it was sent
begun_reached : (kind : Kind) (s : Sample) → Runs kind s → IsReached (begun_world kind s)
begun_reached kind s runs =
    reached_by kind s runs.may (Deliver 0 ∷ []) _ (begun_world kind s, _, opens kind s runs, refl)

-- the world after the timeout of the server's end
abbrev server_timed : Kind → Sample → WorldState
server_timed kind s = timed_by (begun_world kind s) 1 (server_for kind s)

-- a read recovers whose first DATA was lost
pub read_recovers : SomeReadRecovers
unfolding occurrences_of name_of number_of digits answered_option taken_option
read_recovers = (
  begun_world Read blocks,
  world_at blocks.host 8 (server_timed Read blocks) 2,
  1,
  0,
  server_for Read blocks,
  client_for Read blocks,
  blocks.asked,
  config.limits.max_file,
  _,
  0,
  begun_reached Read blocks blocks_run,
  record {
    server_at = refl;
    client_at = refl;
    to_client = refl;
    waits = refl;
    takes = (
      Some (packet_in (server_for Read blocks).state.position.last_sent),
      spells (server_for Read blocks).state.position.last_sent (search rules),
      tt,
    );
  },
  refl,
  behaves (begun_world Read blocks) _ 1 (server_for Read blocks) (client_for Read blocks) refl refl refl (omega arith)
      (reports blocks.host 8 (server_timed Read blocks) 2)
      (settles blocks.host 8 (server_timed Read blocks) 2 (search rules)) (inr (refl, refl)),
  refl,
)

-- a write recovers whose ACK 0 was lost
pub write_recovers : SomeWriteRecovers
unfolding occurrences_of name_of number_of digits answered_option taken_option
write_recovers = (
  begun_world Write oack,
  world_at oack.host 5 (server_timed Write oack) 2,
  1,
  0,
  server_for Write oack,
  client_for Write oack,
  oack.asked,
  config.limits.max_file,
  _,
  0,
  begun_reached Write oack oack_runs,
  record {
    server_at = refl;
    client_at = refl;
    to_client = refl;
    waits = refl;
    takes = (
      Some (packet_in (server_for Write oack).state.position.last_sent),
      spells (server_for Write oack).state.position.last_sent (search rules),
      tt,
    );
  },
  refl,
  behaves (begun_world Write oack) _ 1 (server_for Write oack) (server_for Write oack) refl refl refl (omega arith)
      (reports oack.host 5 (server_timed Write oack) 2)
      (settles oack.host 5 (server_timed Write oack) 2 (search rules)) (inl (tt, (tt, (tt, (tt, ((λ e. cc), tt)))))),
  refl,
)

-- ---- the request is lost
asked_reached : (kind : Kind) (s : Sample) → Runs kind s → IsReached (asked_world kind s)
asked_reached kind s runs = reached_by kind s runs.may [] _ refl

-- the world after the client's timeout
abbrev pub client_timed : Kind → Sample → WorldState
client_timed kind s = timed_by (asked_world kind s) 0 (client_for kind s)

-- the request is delivered, and the port opens its end
pub request_delivered : (kind : Kind) (s : Sample) (mid new : WorldState) → HasPort mid →
    slice_get mid.sent 1
    ≡ Some
    (datagram (client_for kind s).address (client_for kind s).state.position.last_sent_to (request_for kind s)) →
    (accepted : IsAccepted mid (client_for kind s) (service_for kind s)) →
    ServiceStep (service_for kind s) mid (client_for kind s).address (request_for kind s) (sent_report mid) new →
    WorldStep mid (Deliver 1) (sent_report mid) new
request_delivered kind s mid new port there accepted served = (
  datagram (client_for kind s).address (client_for kind s).state.position.last_sent_to (request_for kind s),
  there,
  At_request_port (is_to_port kind s) port accepted.decoded accepted.says accepted.repeated accepted.repeats
      (rw (accepted.is) served),
)

-- the world after that
abbrev pub read_opened : Sample → WorldState
read_opened s =
    opened_in (client_timed Read s)
    (sending_end (client_timed Read s) (client_for Read s).address (request_for Read s) s.mode name s.file s.agreed)

not_repeated : (kind : Kind) (s : Sample) →
    IsRepeated false (client_for kind s).address (Some (packet_in (request_for kind s))) (client_timed kind s).ends
not_repeated Read s = search rules
not_repeated Write s = search rules

-- the server accepts a request when it is sent again
accepted_again : (kind : Kind) (s : Sample) → Runs kind s →
    service (client_timed kind s) false (request_for kind s) (Some (packet_in (request_for kind s)))
    ≡ service_for kind s →
    IsAccepted (client_timed kind s) (client_for kind s) (service_for kind s)
accepted_again kind s runs is = record {
  decoded = Some (packet_in (request_for kind s));
  says = spells (request_for kind s) runs.spelled;
  repeated = false;
  repeats = not_repeated kind s;
  is = is;
}

-- a read recovers whose request was lost
pub read_request_recovers : SomeReadRequestRecovers
unfolding occurrences_of name_of number_of digits answered_option taken_option
read_request_recovers = (
  asked_world Read blocks,
  world_at blocks.host 8 (read_opened blocks) 2,
  0,
  client_for Read blocks,
  blocks.asked,
  config.limits.max_file,
  name,
  blocks.file,
  blocks.mode,
  _,
  blocks.agreed,
  asked_reached Read blocks blocks_run,
  record {
    client_at = refl;
    waits = refl;
    run = behaves (asked_world Read blocks) _ 0 (client_for Read blocks) (client_for Read blocks) refl refl refl (omega arith)
        (sent_report (client_timed Read blocks) ∷ reports blocks.host 8 (read_opened blocks) 2) (
          read_opened blocks,
          request_delivered Read blocks (client_timed Read blocks) (read_opened blocks) (omega arith) refl
              (accepted_again Read blocks blocks_run refl)
              (blocks.file, refl, record { reports = refl; is = refl }),
          settles blocks.host 8 (read_opened blocks) 2 (search rules),
        ) (inr (refl, refl));
    accepted = accepted_again Read blocks blocks_run refl;
  },
  refl,
  blocks_run.answered,
  refl,
)

-- the world once the sample write has asked
abbrev pub write_opened : WorldState
write_opened =
    opened_in (client_timed Write oack)
    (receiving_end (client_timed Write oack) (client_for Write oack).address (request_for Write oack) oack.mode name
    oack.agreed)

-- a write recovers whose request was lost
pub write_request_recovers : SomeWriteRequestRecovers
unfolding occurrences_of name_of number_of digits answered_option taken_option
write_request_recovers = (
  asked_world Write oack,
  world_at oack.host 5 write_opened 2,
  0,
  client_for Write oack,
  oack.asked,
  config.limits.max_file,
  name,
  oack.mode,
  oack.agreed,
  asked_reached Write oack oack_runs,
  record {
    client_at = refl;
    waits = refl;
    run = behaves (asked_world Write oack) _ 0 (client_for Write oack) (client_for Write oack) refl refl refl (omega arith)
        (sent_report (client_timed Write oack) ∷ reports oack.host 5 write_opened 2) (
          write_opened,
          request_delivered Write oack (client_timed Write oack) write_opened (omega arith) refl
              (accepted_again Write oack oack_runs refl) (search),
          settles oack.host 5 write_opened 2 (search rules),
        ) (inl (tt, (tt, (tt, (tt, (tt, ((λ e. cc), tt)))))));
    accepted = accepted_again Write oack oack_runs refl;
  },
  oack_runs.answered,
  omega arith,
  (tt, (tt, (tt, (tt, (tt, ((λ e. cc), tt)))))),
  refl,
)
