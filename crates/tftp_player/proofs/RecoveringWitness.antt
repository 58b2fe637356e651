-- A transfer that recovers: a read of three blocks of which a datagram was lost.
-- For the law a_transfer_recovers, which is then of some runs.
use Rattle.tftp_player.proofs.Common.{ℕ, ◌∷◌, Option, Some, refl, arith, rules, inr, slice_get, OpenEnd, IsReached}
use Rattle.tftp_player.proofs.Common.{WorldState, WorldEnd, Open_end, sent_report, Terms, left_to_add, is_client, ◌≡◌}
use Rattle.tftp_player.proofs.Common.{length, subst, sym, ◌∙◌, true, false, ◌<◌, Settles}
use Rattle.tftp_negotiate.specs.Options.{number_of, name_of}
use Rattle.tftp_negotiate.specs.declared.known.Kind.TheVariants.{Read}
use Rattle.tftp_player.specs.Recovering.{SomeTransferRecovers, IsEstablished}
use Rattle.tftp_player.proofs.SampleDeliveries.{AllDelivered, world_at, reports, settles, deliveries, plays, behaves}
use Rattle.tftp_player.proofs.SampleDeliveries.{timed_by, StoresNone, count_reports}
use Rattle.tftp_player.proofs.Witness.{asked_world, begun_world, client_for, Sample, Runs, opens, reached_by}
use Rattle.tftp_player.proofs.Witnesses.{blocks, blocks_run, read, read_runs}
use Rattle.tftp_negotiate.specs.Answer.{answered_option}
use Rattle.std.specs.Fmt.{digits}
use Rattle.tftp_negotiate.specs.Negotiation.{occurrences_of}
use Rattle.tftp_negotiate.specs.Agreement.{taken_option}

-- an end that is open
abbrev open_at : Sample → Option WorldEnd → OpenEnd
open_at s (Some (Open_end x)) = x
open_at s _ = client_for Read s

-- the world after so many deliveries from the OACK on
abbrev heard_world : Sample → ℕ → WorldState
heard_world s heard = world_at s.host heard (begun_world Read s) 1

abbrev sender_in : Sample → ℕ → OpenEnd
sender_in s heard = open_at s (slice_get (heard_world s heard).ends 1)

abbrev receiver_in : Sample → ℕ → OpenEnd
receiver_in s heard = open_at s (slice_get (heard_world s heard).ends 0)

-- and after the sender's timeout
abbrev timed_world : Sample → ℕ → WorldState
timed_world s heard = timed_by (heard_world s heard) 1 (sender_in s heard)

reached : (s : Sample) → Runs Read s → (heard : ℕ) → AllDelivered s.host heard (begun_world Read s) 1 →
    IsReached (heard_world s heard)
reached s runs heard all =
    let rs = sent_report (asked_world Read s) ∷ reports s.host heard (begun_world Read s) 1 in
    reached_by Read s runs.may (deliveries 0 rs) _
    (plays (asked_world Read s) 0 rs (heard_world s heard)
    (begun_world Read s, opens Read s runs, settles s.host heard (begun_world Read s) 1 all))

-- it recovers by so many deliveries, from the datagram at this index on, if that is their number
recovers_by : (s : Sample) → Runs Read s → (heard more next number : ℕ) (terms : Terms) →
    AllDelivered s.host heard (begun_world Read s) 1 →
    IsEstablished (heard_world s heard) 1 0 (sender_in s heard) (receiver_in s heard) terms number →
    (sender_in s heard).address.port ≡ 1025 → StoresNone (sender_in s heard) →
    0 < (sender_in s heard).state.position.retries_left → length (heard_world s heard).sent ≡ next →
    AllDelivered s.host more (timed_world s heard) next →
    (is_client (receiver_in s heard).state.role.side ≡ true) × ((receiver_in s heard).refuses ≡ false) →
    more ≡ left_to_add (sender_in s heard) terms number → SomeTransferRecovers number
recovers_by s runs heard more next number terms all is port none some from then_all willing counted = (
  heard_world s heard,
  world_at s.host more (timed_world s heard) next,
  1,
  0,
  sender_in s heard,
  receiver_in s heard,
  terms,
  reached s runs heard all,
  is,
  behaves (heard_world s heard) _ 1 (sender_in s heard) (receiver_in s heard) is.sender_at port none some
      (reports s.host more (timed_world s heard) next)
      (subst (λ (i : ℕ). Settles (timed_world s heard) i (reports s.host more (timed_world s heard) next)
      (world_at s.host more (timed_world s heard) next)) (sym from)
      (settles s.host more (timed_world s heard) next then_all)) (inr willing),
  count_reports s.host more (timed_world s heard) next ∙ counted,
)

-- the OACK is acknowledged, and the ACK is lost
pub oack_recovers : SomeTransferRecovers 0
unfolding occurrences_of name_of number_of digits answered_option taken_option
oack_recovers =
    recovers_by blocks blocks_run 1 8 3 0 _ (search rules)
    (record { sender_at = refl; receiver_at = refl; sends = refl; to_receiver = refl; to_sender = refl })
    refl refl (omega arith) refl (search rules) (refl, refl) refl

-- DATA 2 is lost
pub data_recovers : SomeTransferRecovers 2
unfolding occurrences_of name_of number_of digits answered_option taken_option
data_recovers =
    recovers_by blocks blocks_run 4 4 6 2 _ (search rules)
    (record { sender_at = refl; receiver_at = refl; sends = refl; to_receiver = refl; to_sender = refl })
    refl refl (omega arith) refl (search rules) (refl, refl) refl

-- the only block is stored, and its ACK is lost
pub ack_recovers : SomeTransferRecovers 1
unfolding occurrences_of
ack_recovers =
    recovers_by read read_runs 1 2 3 1 _ (search rules)
    (record { sender_at = refl; receiver_at = refl; sends = refl; to_receiver = refl; to_sender = refl })
    refl refl (omega arith) refl (search rules) (refl, refl) refl
