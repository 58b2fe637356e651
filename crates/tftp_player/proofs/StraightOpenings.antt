-- A run without loss completes: a client opens, and the port of the server accepts its request.
-- For the law a_straight_run_completes.
use Rattle.tftp_player.proofs.Common.{◌≡◌, ℕ, true, List, length, refl, ap, ◌∙◌, subst, rules, IsAccepted, read_adds}
use Rattle.tftp_player.proofs.Common.{write_adds, Asked, Waiting, Service, Sends, Takes, request_port, OpenEnd}
use Rattle.tftp_player.proofs.Common.{WorldState, file_at, StoredFile, reading_client, writing_client, Get, Put}
use Rattle.tftp_player.specs.Straight.{ReadsComplete, WritesComplete}
use Rattle.tftp_player.proofs.RequestArrives.{Asks, read_on, write_on}
use Rattle.tftp_player.proofs.RunsLeft.{Reaches, reader_ends, writer_ends}
use Rattle.tftp_player.proofs.StraightPort.{HasAsked, has_asked}
use Rattle.tftp_player.proofs.WorldFacts.{any_of}

-- a client asked, and the port accepts its request
has_come : (old w : WorldState) (c : OpenEnd) (asked : Asked) (limit : ℕ) (accepts : Service) → HasAsked old w c →
    c.state.position.last_sent_to ≡ request_port → c.state.position.phase ≡ Waiting asked limit →
    IsAccepted w c accepts → Asks w (length old.ends) (length old.sent) c asked limit accepts
has_come old w c asked limit accepts has to waits accepted = search rules

-- a read completes
pub reads_complete : ReadsComplete
reads_complete strangers old new name mode asked file agreed ok h =
    let s = h.run.asks in
    let c = reading_client old name mode asked in
    let n = read_adds mode file agreed in
    let has =
    has_asked old h.run.asked c (Get name mode asked) h.run.report (any_of strangers old ok) s s.2.is in
    let asks =
    has_come old h.run.asked c asked old.limits.max_file (Sends h.accepts.path mode h.accepts.length agreed) has refl refl
    h.accepts.accepted in
    reader_ends old new (length h.run.reports) n
    (subst (λ (j : ℕ). Reaches new j (length old.ends) (length old.sent) (length h.run.reports) n) has.ends
    (read_on h.run.asked new (length old.ends) (length old.sent) c asked old.limits.max_file h.accepts.path file mode
    h.accepts.length true (refl, refl)
    (record { reports = h.run.reports; settles = h.run.settles; taken = tt }) agreed asks
    (ap (λ (files : List StoredFile). file_at files h.accepts.path) has.files ∙ h.accepts.there) h.accepts.answered))

-- and a write
pub writes_complete : WritesComplete
writes_complete strangers old new name mode asked file agreed ok h =
    let s = h.run.asks in
    let c = writing_client old name mode asked file in
    let n = write_adds mode file agreed in
    let has =
    has_asked old h.run.asked c (Put name mode asked file) h.run.report (any_of strangers old ok) s s.2.is in
    let asks =
    has_come old h.run.asked c asked old.limits.max_file (Takes h.accepts.path mode agreed) has refl refl
    h.accepts.accepted in
    writer_ends old new (length h.run.reports) n
    (subst (λ (j : ℕ). Reaches new (length old.ends) j (length old.sent) (length h.run.reports) n) has.ends
    (write_on h.run.asked new (length old.ends) (length old.sent) c asked old.limits.max_file h.accepts.path mode
    (record { reports = h.run.reports; settles = h.run.settles; taken = h.taken }) agreed asks h.accepts.answered
    h.accepts.fits))
