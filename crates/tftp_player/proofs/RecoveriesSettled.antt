-- `settle` makes as many deliveries as a recovery needs, if its limit is not below.
-- For the law a_recovery_settles.
use Rattle.tftp_player.proofs.Common.{ℕ, ◌≤◌, length, rules, Asked, Service, OpenEnd, Behaves, WorldState, StoresTake}
use Rattle.tftp_player.proofs.Common.{AsksAgain}
use Rattle.tftp_player.specs.Recovering.{EndsAfter, HasSettled, SettlesAfter, TransfersSettle, AnsweredReadsSettle}
use Rattle.tftp_player.specs.Recovering.{AnsweredWritesSettle, AsksAndSettles, ReadRequestsSettle, WriteRequestsSettle}
use Rattle.tftp_player.proofs.RecoveringAnswers.{reads_recover, writes_recover}
use Rattle.tftp_player.proofs.RecoveringRuns.{transfers_recover}
use Rattle.tftp_player.proofs.SettledLemmas.{took_all}
use Rattle.tftp_player.proofs.RecoveringRequests.{read_requests_recover, write_requests_recover}

module _ {w new : WorldState} {x y : OpenEnd} {most made : ℕ} (s : SettlesAfter w x y most made new) where
  stores : StoresTake y s.settles.reports
  stores = search (rules, took_all)

  -- the network behaves
  abbrev behaves : Behaves w x y new
  behaves = record {
    retries = s.retries;
    report = s.report;
    mid = s.mid;
    times_out = s.times_out;
    reports = s.settles.reports;
    settles = s.settles.delivered;
    taken = stores;
  }

  has_settled : (one other count : ℕ) → count ≤ most → EndsAfter w new one other (length s.settles.reports) count →
      HasSettled w new one other made count
  has_settled one other count enough ends = search rules

-- so it is of an established transfer
pub transfers_settle : TransfersSettle
transfers_settle w new one other x y terms number most made is_reached e s enough =
    has_settled s one other _ enough (transfers_recover w new one other x y terms number is_reached e (behaves s))

-- of a read whose client has no peer yet
pub answered_reads_settle : AnsweredReadsSettle
answered_reads_settle w new one other x y asked limit terms number most made is_reached a is s enough =
    has_settled s one other _ enough
    (reads_recover w new one other x y asked limit terms number is_reached a is (behaves s))

-- and of a write
pub answered_writes_settle : AnsweredWritesSettle
answered_writes_settle w new one other x y asked limit terms number most made is_reached a is s enough =
    has_settled s one other _ enough
    (writes_recover w new one other x y asked limit terms number is_reached a is (behaves s))

-- ---- the request was lost
abbrev asks_again : {w new : WorldState} {k : ℕ} {y : OpenEnd} {asked : Asked} {limit : ℕ} {accepts : Service}
    {most made : ℕ} → AsksAndSettles w new k y asked limit accepts most made → AsksAgain w new k y asked limit accepts
asks_again s = record {
  client_at = s.client_at;
  waits = s.waits;
  run = behaves s.run;
  accepted = s.accepted;
}

-- of a read whose request was lost
pub read_requests_settle : ReadRequestsSettle
read_requests_settle w new k y asked limit path file mode measured agreed most made is_reached s there answered enough =
    has_settled s.run (length w.ends) k _ enough
    (read_requests_recover w new k y asked limit path file mode measured agreed is_reached (asks_again s) there
    answered)

-- and of a write
pub write_requests_settle : WriteRequestsSettle
write_requests_settle w new k y asked limit path mode agreed most made is_reached s answered fits have enough =
    has_settled s.run k (length w.ends) _ enough
    (write_requests_recover w new k y asked limit path mode agreed is_reached (asks_again s) answered fits
    (took_all s.run.mid s.run.settles.reports s.run.mid new (length w.sent) (λ j z e. e) s.run.settles.delivered have))
