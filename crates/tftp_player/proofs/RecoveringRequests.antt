-- A transfer recovers whose request was lost: its client sends it again, and the port accepts it.
-- For the law a_request_recovers.
use Rattle.tftp_player.proofs.Common.{◌≡◌, ℕ, true, false, List, [], ◌∷◌, ◌++◌, length, sym, ap, ◌∙◌, subst, inl, inr}
use Rattle.tftp_player.proofs.Common.{rules, read_adds, write_adds, Asked, Waiting, Service, Sends, Takes, PhaseKept}
use Rattle.tftp_player.proofs.Common.{two_hosts, request_port, Endpoint, OpenEnd, IsReached, WorldState, Open_end}
use Rattle.tftp_player.proofs.Common.{datagram, Refines, Timeout, AsksAgain}
use Rattle.tftp_player.specs.Recovering.{ReadRequestsRecover, WriteRequestsRecover}
use Rattle.tftp_player.proofs.RequestArrives.{Asks, read_on, write_on}
use Rattle.tftp_player.proofs.AnsweringEnds.{reached_ok}
use Rattle.std.proofs.Common.{length-set}
use Rattle.tftp_player.proofs.RunsLeft.{Reaches}
use Rattle.tftp_player.proofs.WorldFacts.{phase_kept}
use Rattle.tftp_player.proofs.SentAgain.{MaySendAgain, Resent, retried, ready_with, resends, retransmits, timed_out}
use Rattle.tftp_player.proofs.StraightRuns.{set_at}

-- ---- the request is sent again
module _ (w new : WorldState) (k : ℕ) (y : OpenEnd) (asked : Asked) (limit : ℕ) (accepts : Service)
    (is_reached : IsReached w) (again : AsksAgain w new k y asked limit accepts) where
  abbrev mid : WorldState
  mid = again.run.mid

  abbrev bytes_now : List ℕ
  bytes_now = y.state.position.last_sent

  ok : Refines true w
  ok = reached_ok w is_reached

  kept : PhaseKept two_hosts y (Waiting asked limit)
  kept = phase_kept w ok k y (Waiting asked limit) again.client_at again.waits

  resent : Resent w mid k y
  resent = resends w _ k y _ (retransmits _ _ (subst MaySendAgain (sym again.waits) tt) again.run.retries) (ok.ends k
      (Open_end y) again.client_at).stands.still (timed_out w _ k y _ ok again.client_at again.run.times_out)

  asks_now : Asks mid k (length w.sent) (retried y) asked limit accepts
  asks_now = record {
    ready =
        ready_with w mid (Timeout y.address.port) again.run.report (datagram y.address request_port bytes_now) ok
        again.run.times_out
        (resent.sent ∙ ap (λ (p : Endpoint). w.sent ++ datagram y.address p bytes_now ∷ []) kept.2);
    client_at = set_at w mid k (Open_end y) (Open_end (retried y)) resent.ends again.client_at;
    waits = again.waits;
    accepted = record {
      decoded = again.accepted.decoded;
      says = again.accepted.says;
      repeated = again.accepted.repeated;
      repeats = again.accepted.repeats;
      is = again.accepted.is;
    };
  }

  as_many : length mid.ends ≡ length w.ends
  as_many = ap length resent.ends ∙ length-set w.ends k (Open_end (retried y))

-- so a read recovers whose request was lost
pub read_requests_recover : ReadRequestsRecover
read_requests_recover w new k y asked limit path file mode measured agreed is_reached again there answered =
    let accepts = Sends path mode measured agreed in
    let run = again.run in
    let asks = asks_now w new k y asked limit accepts is_reached again in
    let n = read_adds mode file agreed in
    let reaches : Reaches new (length w.ends) k (length w.sent) (length run.reports) n =
    subst (λ (j : ℕ). Reaches new j k (length w.sent) (length run.reports) n) (as_many w new k y asked limit accepts
    is_reached again) (elim run.taken [
      | inl t ↦ read_on run.mid new k (length w.sent) (retried y) asked limit path file mode measured false tt
          (record { reports = run.reports; settles = run.settles; taken = t }) agreed asks there answered
      | inr h ↦ read_on run.mid new k (length w.sent) (retried y) asked limit path file mode measured true h
          (record { reports = run.reports; settles = run.settles; taken = tt }) agreed asks there answered
    ]) in
    search rules

-- so does a write
pub write_requests_recover : WriteRequestsRecover
write_requests_recover w new k y asked limit path mode agreed is_reached again answered fits taken =
    let accepts = Takes path mode agreed in
    let run = again.run in
    let n = write_adds mode y.file agreed in
    let reaches : Reaches new k (length w.ends) (length w.sent) (length run.reports) n =
    subst (λ (j : ℕ). Reaches new k j (length w.sent) (length run.reports) n) (as_many w new k y asked limit accepts
    is_reached again) (write_on run.mid new k (length w.sent) (retried y) asked limit path mode
    (record { reports = run.reports; settles = run.settles; taken = taken }) agreed
    (asks_now w new k y asked limit accepts is_reached again) answered fits) in
    search rules
