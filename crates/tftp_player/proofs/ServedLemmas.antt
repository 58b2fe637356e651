-- A datagram at an end of the server, in the words of the world's ends. For `ServerEnd::on_datagram` and
-- `PlayedEnd::on_datagram`.
use Rattle.tftp_player.proofs.Common.{◌≡◌, ◌≤◌, ℕ, Bool, true, false, List, length, sym, ap, ◌∙◌, subst, Result, rules}
use Rattle.tftp_player.proofs.Common.{◌&&◌, not, is_some, memory_source, Holding, Files, Source, Sink, DEFAULT_BLOCK}
use Rattle.tftp_player.proofs.Common.{EndState, is_client, record_of, terms_of, AreFilesOf, AreSame, Turn, after_turn}
use Rattle.tftp_player.proofs.Common.{reply_bytes, files_in, drafting_sink, memory_meaning, StepIn, Stored, Drafted}
use Rattle.tftp_player.proofs.Common.{Endpoint, OpenEnd, files_of, end_after, EndTakes, served_end, answer_room}
use Rattle.tftp_player.proofs.Common.{PlayedServer, standing, file_at, has_committed, in_the_way, EndStep, FilesAfter}
use Rattle.tftp_player.proofs.Common.{Effect, WorldFault, ServerEnd, KeepsStore, stands, CommitsLast, ServerEndKept}
use Rattle.std.proofs.Common.{IfOk, OnErr}
use Rattle.tftp_store.specs.Memory.{with_armed}
use Rattle.tftp_server.specs.State.{is_closed}
use Rattle.tftp_player.specs.ServerEnd.{ServerEndTakes}
use Rattle.tftp_player.specs.declared.played_end.PlayedEnd.TheVariants.{Server}
use Rattle.tftp_player.proofs.DraftLemmas.{ServerEndLeaves, served_leaves, with_files}
use Rattle.tftp_player.proofs.PlayerLemmas.{open_takes}
use Rattle.tftp_player.proofs.RoomLemmas.{answer_short, known_agrees}
use Rattle.tftp_player.proofs.ServerTurns.{end_step, held_files}
use Rattle.tftp_player.proofs.TermsKept.{step_has, still_known}

-- the answer of a transfer fits the room by its record
pub served_short :
    (from : Endpoint) (bytes : List ℕ) (e : EndState) (store store' : Stored) (path path' : List ℕ) (replace : Bool)
    (turn : Turn) (files files' : Files (List ℕ) Drafted) →
    is_some (terms_of e.position.phase) ≡ true → AreFilesOf e.role.side files →
    StepIn memory_meaning memory_source from bytes e (files_in store path replace files) turn
    (files_in store' path' replace files') →
    length (reply_bytes turn.reply) ≤ answer_room DEFAULT_BLOCK (record_of e)
served_short from bytes e store store' path path' replace turn (Source left) files' known side d =
    answer_short memory_source (drafting_sink memory_meaning) from bytes e DEFAULT_BLOCK (Source left) _ turn
    (known_agrees DEFAULT_BLOCK e.position.phase known) side d
served_short from bytes e store store' path path' replace turn (Sink draft) files' known side d =
    search (rules, answer_short, known_agrees)

-- ---- what its end in the world did
-- the same kind of file
abbrev SameDraftKind : Files (List ℕ) Drafted → Files (List ℕ) Drafted → Type 0
SameDraftKind old new = AreSame (λ (a b : List ℕ). Unit {0}) (λ (a b : Drafted). Unit {0}) old new

-- a sender's flag is unchanged
abbrev KeepsArmed : Files (List ℕ) Drafted → Bool → Bool → Type 0
KeepsArmed (Source left) old new = new ≡ old
KeepsArmed (Sink draft) old new = Unit {0}

keeps_armed : (files : Files (List ℕ) Drafted) (before after : Stored) (armed : Bool) →
    KeepsStore files (with_armed before armed) after → KeepsArmed files armed after.refuses
keeps_armed files before after armed k = search rules

-- the files of its end are those of the transfer
served_files : (port : ℕ) (s : ServerEnd) (files : Files (List ℕ) Drafted) → AreFilesOf s.transfer.end.role.side files →
    files_of (served_end port (with_files s files)) ≡ held_files s.refuses files
served_files port s files fits = search rules

-- the end after a turn
abbrev moved : ServerEnd → EndState → Files (List ℕ) Drafted → Bool → ServerEnd
moved s e files refuses =
    record s { transfer = record s.transfer { end = e; files = files }; refuses = refuses }

served_after : (port : ℕ) (s : ServerEnd) (turn : Turn) (old new : Files (List ℕ) Drafted) (refuses : Bool) →
    SameDraftKind old new → KeepsArmed old s.refuses refuses →
    end_after (served_end port (with_files s old)) turn (held_files refuses new)
    ≡ served_end port (moved s (after_turn s.transfer.end turn) new refuses)
served_after port s turn old new refuses k armed = search rules

-- what holds of it still does, if it still has a peer and commits last
moved_kept : (s : ServerEnd) (turn : Turn) (files : Files (List ℕ) Drafted) (refuses : Bool) → ServerEndKept s →
    SameDraftKind s.transfer.files files → CommitsLast files turn.position.phase →
    is_some (terms_of turn.position.phase) ≡ true →
    ServerEndKept (moved s (after_turn s.transfer.end turn) files refuses)
moved_kept s turn files refuses kept kind commits known = search rules

module _ (port : ℕ) (s s' : ServerEnd) (effect : Effect) (kept : ServerEndKept s)
    (open_now : is_closed s.transfer ≡ false) where
  abbrev e : EndState
  e = s.transfer.end

  abbrev x : OpenEnd
  x = served_end port s

  module _ (from : Endpoint) (bytes : List ℕ) (before after : PlayedServer)
      (t : ServerEndTakes port from bytes s s' before after effect) where
    abbrev held : Files (List ℕ) Holding
    held = held_files t.store.refuses s'.transfer.files

    is_moved : s' ≡ moved s (after_turn e t.turn) s'.transfer.files t.store.refuses
    is_moved = search rules

    steps_end :
        EndStep false (in_the_way before.config.overwrite (file_at before.store.files s.transfer.path)) from bytes e
        (held_files s.refuses s.transfer.files) t.turn held
    steps_end = search (rules, end_step)

    leaves : ServerEndLeaves x t.turn held s'.transfer.files before.config.overwrite before.store.files t.store.files
    leaves = served_leaves port s _ _ _ _ _ _ _ _ _ t.steps t.stays t.kind kept.commits

    -- a datagram at an end of the server
    pub served_takes :
        EndTakes before.config.overwrite from bytes (stands port (Server s)) (stands port (Server s'))
        before.store.files after.store.files effect
    served_takes =
        open_takes x (stands port (Server s')) effect open_now before.config.overwrite from bytes before.store.files
        after.store.files (search (
          subst (λ (f : Files (List ℕ) Holding). EndStep (is_client e.role.side) (in_the_way
              before.config.overwrite (file_at before.store.files s.transfer.path)) from bytes e f t.turn held) (sym
              (served_files port s s.transfer.files kept.files)) (subst (λ (b : Bool). EndStep b (in_the_way
              before.config.overwrite (file_at before.store.files s.transfer.path)) from bytes e (held_files
              s.refuses s.transfer.files) t.turn held) (sym kept.side) steps_end),
          subst (λ (v :
              PlayedServer). FilesAfter before.config.overwrite (not (is_client e.role.side) &&
              has_committed x (end_after x t.turn held)) s.transfer.path (end_after x t.turn
              held).stored before.store.files v.store.files) (sym t.server) (subst (λ (b : Bool).
              FilesAfter before.config.overwrite (not b && has_committed x (end_after x
              t.turn held)) s.transfer.path (end_after x t.turn held).stored
              before.store.files t.store.files) (sym kept.side) leaves.files_after),
          ap (λ (q : ServerEnd). standing (served_end port q)) is_moved ∙ ap
              standing (sym (served_after port s t.turn s.transfer.files
              s'.transfer.files t.store.refuses t.kind (keeps_armed
              s.transfer.files before.store t.store s.refuses
              t.stays))),
        ))

    pub served_took : ServerEndKept s'
    served_took =
        subst ServerEndKept (sym is_moved)
        (moved_kept s t.turn s'.transfer.files t.store.refuses kept t.kind leaves.commits
        (still_known (terms_of e.position.phase) (terms_of t.turn.position.phase)
        (λ agreed a.
        step_has agreed _ from bytes e (held_files s.refuses s.transfer.files) held t.turn a steps_end) kept.known))

-- whether it was handled or not
pub took_kept :
    (port : ℕ) (s s' : ServerEnd) (from : Endpoint) (bytes : List ℕ) (before after : PlayedServer)
    (r : Result Effect WorldFault) → ServerEndKept s → is_closed s.transfer ≡ false →
    IfOk r (ServerEndTakes port from bytes s s' before after) → OnErr r ((s' ≡ s) × (after ≡ before)) → ServerEndKept s'
took_kept port s s' from bytes before after h7 kept open_now t err = search (rules, served_took)
