-- A write whose receiver's store refuses: the receiver sends ERROR 3, and the sender closes by it.
-- For the law no_end_is_blamed, which is then of some ends.
use Rattle.tftp_player.proofs.Common.{[], ◌∷◌, Option, Some, Err, refl, rules, slice_get, slice_set, packet_in, Holding}
use Rattle.tftp_player.proofs.Common.{Sink, DiskFull, Turn, refused_turn, default_terms, OpenEnd, holding_of}
use Rattle.tftp_player.proofs.Common.{WorldState, WorldEnd, ClosedEnd, Open_end, Closed_end, closed_end, datagram}
use Rattle.tftp_player.proofs.Common.{no_report, report_of, sent_report, world_after, WorldStep, At_open_end, armed_end}
use Rattle.tftp_player.proofs.Common.{Datagram, Deliver, RefuseStore, Full}
use Rattle.tftp_negotiate.specs.declared.known.Kind.TheVariants.{Write}
use Rattle.tftp_file.specs.Sink.{disarmed}
use Rattle.tftp_ends.specs.declared.outcome.Outcome.TheVariants as outcomes
use Rattle.tftp_player.specs.Closing.{SomeEndIsRefused}
use Rattle.tftp_player.specs.WorldSteps.{armed_to_refuse}
use Rattle.tftp_player.proofs.SampleDeliveries.{spells, next, delivers}
use Rattle.tftp_player.proofs.Witness.{asked_world, begun_world, client_for, opens, server_for, reached_by}
use Rattle.tftp_player.proofs.Witnesses.{write, write_runs}
use Rattle.tftp_negotiate.specs.Negotiation.{occurrences_of}

-- the receiver, set to refuse
abbrev receiver : OpenEnd
receiver = armed_to_refuse (server_for Write write)

abbrev armed : WorldState
armed =
    record (begun_world Write write) {
      ends = slice_set (begun_world Write write).ends 1 (armed_end (Open_end (server_for Write write)));
    }

-- ACK 0 arrives, and the client sends DATA 1
abbrev written : WorldState
written = (next write.host armed 1).world

abbrev data_one : Datagram
data_one =
    datagram (client_for Write write).address receiver.address (0 ∷ 3 ∷ 0 ∷ 1 ∷ 65 ∷ [])

-- which the receiver refuses
abbrev refuses : Turn
refuses =
    refused_turn (default_terms (client_for Write write).address) DiskFull outcomes.StoreFault
    (client_for Write write).address receiver.state

abbrev sink_then : Holding
sink_then = disarmed (holding_of receiver)

abbrev refused : WorldState
refused = world_after written 1 receiver refuses (Sink sink_then) written.files

refused_step : WorldStep written (Deliver 2) (report_of written receiver refuses) refused
unfolding occurrences_of
refused_step = (
  data_one,
  refl,
  At_open_end 1 receiver refl refl
      (record {
        turn = refuses;
        held = Sink sink_then;
        steps = record {
          decoded = Some (packet_in data_one.bytes);
          says = spells data_one.bytes (search rules);
          acts = (
            65 ∷ [],
            spells data_one.bytes (search rules),
            record {
              bytes = 65 ∷ [];
              after = [];
              mid = sink_then;
              answer = Err Full;
              decoded = (refl, refl);
              appended = (record { answer = refl; leaves = refl }, refl, tt, tt);
              memory = λ e. absurd (cc);
              rest = (refl, refl);
            },
          );
          again = tt;
        };
        turns = record { files = written.files; stored = refl; reports = refl; is = refl };
      }),
)

-- the ERROR arrives, and the sender closes by it
abbrev told : WorldState
told = (next write.host refused 3).world

abbrev closed_in : Option WorldEnd → ClosedEnd
closed_in (Some (Closed_end x)) = x
closed_in _ = closed_end (client_for Write write)

-- there is such a write
pub an_end_is_refused : SomeEndIsRefused
unfolding occurrences_of
an_end_is_refused = (
  told,
  0,
  closed_in (slice_get told.ends 0),
  Closed_end (closed_in (slice_get told.ends 1)),
  reached_by Write write write_runs.may
      (Deliver 0 ∷ RefuseStore 1025 ∷ Deliver 1 ∷ Deliver 2 ∷ Deliver 3 ∷ []) told (
        begun_world Write write,
        sent_report (asked_world Write write),
        opens Write write write_runs,
        (
          armed,
          no_report,
          (1, Open_end (server_for Write write), record { is = refl; there = refl }, refl, refl),
          (
            written,
            _,
            delivers write.host armed 1 (slice_get armed.sent 1) refl (search rules),
            (
              refused,
              report_of written receiver refuses,
              refused_step,
              (told, _, delivers write.host refused 3 (slice_get refused.sent 3) refl (search rules), refl),
            ),
          ),
        ),
      ),
  refl,
  (1, refl),
  refl,
  refl,
  refl,
)
