-- A transfer that opens, and what its end serves.
use Rattle.tftp_c.proofs.Common.{ℕ, Option, Some, IsSome, refl, sym, subst, ap, ◌∙◌, length, [], ◌∷◌, Endpoint, EndState}
use Rattle.tftp_c.proofs.Common.{Table, TftpEndpoint, TftpEvent, at, endpoint_of}
use Rattle.std.specs.Prelude.{◌≡◌, ◌↔◌, ◌≤◌, List, IsErrOf, Ok, true}
use Rattle.std.specs.BTreeMap.{is_at}
use Rattle.std.specs.Cmp.{eq_by_cmp_equiv, nat_cmp_total}
use Rattle.std.specs.Ordering.{match_ordering, nat_cmp}
use Rattle.std.specs.declared.cmp.Ordering.{Ordering}
use Rattle.std.proofs.Common.{rules}
use Rattle.std.proofs.lemmas.Map.Entries.{lookup_head}
use Rattle.tftp_ends.specs.declared.backoff.Backoff.TheVariants.{Constant}
use Rattle.tftp_ends.specs.declared.record.Step.{Step}
use Rattle.tftp_ends.specs.End.{record_of, seconds_of}
use Rattle.tftp_ends.specs.Opening.{opening_step}
use Rattle.tftp_file.specs.declared.files.Files.{Files}
use Rattle.tftp_server.specs.CallersFiles.{asked_path}
use Rattle.tftp_server.specs.Request.{AdmissionState, Admits}
use Rattle.tftp_server.specs.State.{with_new}
use Rattle.tftp_server.specs.declared.fault.ServerFault.TheVariants.{TidInUse}
use Rattle.tftp_c.specs.declared.elsewhere.Absent.{Absent}
use Rattle.tftp_c.specs.Elsewhere.{stated_in_files}
use Rattle.tftp_c.specs.Stated.{StatedBy}
use Rattle.tftp_c.specs.HeldServer.{CallersTransfer, OpensAt}
use Rattle.tftp_c.specs.Opens.{FirstSent}
use Rattle.tftp_c.specs.Reports.{Reports, Sends}
use Rattle.tftp_c.specs.Waits.{WaitsAt}
use Rattle.tftp_c.proofs.TransferLemmas.{some_of}

-- the transfer of an admission that is held
pub opens_at : {T : Type 0} (done : T) (tid : ℕ) (from : TftpEndpoint) (peer : Endpoint) (request : List ℕ)
    (end : EndState) (files : Files Absent Absent) (admission : AdmissionState) (old new : Table) →
    peer ≡ endpoint_of from →
    Admits old peer request admission.ask →
    admission.bytes ≡ request →
    (IsErrOf {T = T} (Ok done) TidInUse ↔ IsSome (at tid old.held)) →
    StatedBy end.position.last_sent (stated_in_files files) →
    (path : List ℕ) × (asked_path admission.ask ≡ Some path) × (new ≡ record old {
      held = with_new tid (record { end = end; files = files; path = path; request = admission.bytes }) old.held;
    }) →
    OpensAt tid from request (λ e. e ≡ end) old new
opens_at {T = T} done tid from peer request end files admission old new is admits same in_use stated h =
    record {
      ask = admission.ask;
      admits = subst (λ (p : Endpoint). Admits old p request admission.ask) is admits;
      transfer = record { end = end; files = files; path = h.0; request = admission.bytes };
      asked = h.1;
      vacant = λ some. let e : IsErrOf {T = T} (Ok done) TidInUse = in_use.1 some in absurd (cc);
      by_request = same;
      end = refl;
      stated = stated;
      held = h.2;
    }

-- a new transfer is found at its identifier
at_same : (tid : ℕ) → is_at (nat_cmp tid) tid ≡ true
at_same tid = (eq_by_cmp_equiv nat_cmp_total).refl tid

new_step : {T : Type 0} (tid : ℕ) (v : T) (e : ℕ × T) (es more : List (ℕ × T)) (o : Ordering) → nat_cmp tid e.0 ≡ o →
    is_at (nat_cmp tid) tid ≡ true → at tid more ≡ Some v →
    at tid (match_ordering o ((tid, v) ∷ e ∷ es) ((e.0, v) ∷ es) (e ∷ more)) ≡ Some v
new_step tid v e es more o order same rest = search rules

new_there : {T : Type 0} (tid : ℕ) (v : T) (held : List (ℕ × T)) → at tid (with_new tid v held) ≡ Some v
new_there tid v [] = lookup_head (is_at (nat_cmp tid)) (tid, v) [] (at_same tid)
new_there tid v (e ∷ es) = new_step tid v e es (with_new tid v es) (nat_cmp tid e.0) refl (at_same tid) (new_there tid v es)

module _ (tid : ℕ) (from : TftpEndpoint) (request : List ℕ) {serves : EndState → Type 0} (old new : Table)
    (h : OpensAt tid from request serves old new) where
  opened_there : at tid new.held ≡ Some h.transfer
  opened_there =
      subst (λ (t : Table). at tid t.held ≡ Some h.transfer) (sym h.held) (new_there tid h.transfer old.held)

  -- the table has it
  pub opened_held : IsSome (at tid new.held)
  opened_held = some_of (at tid new.held) h.transfer opened_there

-- its first datagram is reported
pub first_sent : (tid : ℕ) (from : TftpEndpoint) (peer : Endpoint) (request : List ℕ) (end : EndState)
    (old new : Table) (step : Step) (reply : List ℕ) (event : TftpEvent) →
    OpensAt tid from request (λ e. e ≡ end) old new → peer ≡ endpoint_of from → step ≡ opening_step peer →
    ((it : CallersTransfer) → at tid new.held ≡ Some it → Sends step.to it.end.position.last_sent reply event) →
    ((it : CallersTransfer) → at tid new.held ≡ Some it → Reports it.end event) →
    event.progress ≡ step.progress → WaitsAt tid Constant new event →
    length end.position.last_sent ≤ length reply →
    FirstSent end (endpoint_of from) reply event
first_sent tid from peer request end old new step reply event h is first sends reports progress waits fits =
    let there = opened_there tid from request old new h in
    let goes : step.to ≡ Some (endpoint_of from) = ap (λ (s : Step). s.to) first ∙ ap (λ (p : Endpoint). Some p) is in
    record {
      sends =
          subst (λ (e : EndState). Sends (Some (endpoint_of from)) e.position.last_sent reply event) h.end
          (subst (λ (to : Option Endpoint). Sends to h.transfer.end.position.last_sent reply event) goes
          (sends h.transfer there));
      fits = fits;
      progress = progress ∙ ap (λ (s : Step). s.progress) first;
      interval =
          subst (λ (e : EndState). event.interval ≡ seconds_of (record_of e).timeout) h.end (waits h.transfer there);
      reports = subst (λ (e : EndState). Reports e event) h.end (reports h.transfer there);
    }

-- what holds of the end that was opened holds of the transfer's
pub opens_as : (tid : ℕ) (from : TftpEndpoint) (request : List ℕ) (end : EndState)
    (serves : EndState → Type 0) (old new : Table) →
    OpensAt tid from request (λ e. e ≡ end) old new → serves end →
    OpensAt tid from request serves old new
opens_as tid from request end serves old new h holds =
    record {
      ask = h.ask;
      admits = h.admits;
      transfer = h.transfer;
      asked = h.asked;
      vacant = h.vacant;
      by_request = h.by_request;
      end = subst (λ (e : EndState). serves e) (sym h.end) holds;
      stated = h.stated;
      held = h.held;
    }
