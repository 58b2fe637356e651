-- A sender that hears the last ACK of its peer, computed. For the law a_sender_hears_the_end, which is then of some
-- world.
use Rattle.tftp_player.proofs.Common.{false, refl, arith, slice_get, WorldState, Refines, Deliver}
use Rattle.tftp_negotiate.specs.declared.known.Kind.TheVariants.{Read}
use Rattle.tftp_player.specs.Recovering.{SomeSenderHearsTheEnd}
use Rattle.tftp_player.proofs.SampleDeliveries.{delivers, next}
use Rattle.tftp_player.proofs.WorldRuns.{new_ok, step_keeps}
use Rattle.tftp_player.proofs.Witness.{config, asked_world, asks, files_for, begun_world, event_for, new_world_for}
use Rattle.tftp_player.proofs.Witness.{opens}
use Rattle.tftp_player.proofs.Witnesses.{read, read_runs}
use Rattle.tftp_negotiate.specs.Negotiation.{occurrences_of}

-- ---- the last ACK of a read of one block is heard
-- the world in which the client is complete, and the server's end is not
abbrev acked_world : WorldState
acked_world = (next read.host (begun_world Read read) 1).world

acked_ok : Refines false acked_world
acked_ok =
    let first = new_ok false (files_for Read read) config (omega arith, omega arith) in
    let asked = step_keeps false (new_world_for Read read) (asked_world Read read) (event_for Read read) _ tt first
    (asks Read read read_runs.may) in
    let begun = step_keeps false (asked_world Read read) (begun_world Read read) (Deliver 0) _ tt asked
    (opens Read read read_runs) in
    step_keeps false (begun_world Read read) acked_world (Deliver 1) _ tt begun
    (delivers read.host (begun_world Read read) 1 (slice_get (begun_world Read read).sent 1) refl read_runs.all.0)

-- a sender that receives the last ACK
pub sender_hears_the_end : SomeSenderHearsTheEnd
unfolding occurrences_of
sender_hears_the_end = (
  acked_world,
  (next read.host acked_world 2).world,
  2,
  (next read.host acked_world 2).report,
  1,
  _,
  _,
  acked_ok,
  (0, refl),
  refl,
  refl,
  refl,
  refl,
  refl,
  refl,
  refl,
  delivers read.host acked_world 2 (slice_get acked_world.sent 2) refl read_runs.all.1.0,
)
