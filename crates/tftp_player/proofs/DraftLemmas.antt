-- The effect of a turn of a server's end on its draft and on the server's files. For ServedLemmas.
use Rattle.tftp_player.proofs.Common.{◌≡◌, ℕ, Bool, true, false, List, Option, Some, Result, Ok, Err, refl, sym, ap}
use Rattle.tftp_player.proofs.Common.{◌∙◌, subst, rules, ◌&&◌, not, if◌then◌else◌, ⊤, true≢false, same_Some, Packet}
use Rattle.tftp_player.proofs.Common.{memory_source, Holding, StoreFault, Action, Respond, Response, Ignore, Phase}
use Rattle.tftp_player.proofs.Common.{Terms, datagram_action, EndState, is_complete, AreSame, Done, Turn, Acts}
use Rattle.tftp_player.proofs.Common.{Appended, GoesOn, committed_turn, holding, Files, Source, Sink, files_in}
use Rattle.tftp_player.proofs.Common.{drafting_sink, memory_meaning, StepIn, Stored, Drafted, FileList, Endpoint}
use Rattle.tftp_player.proofs.Common.{OpenEnd, end_after, served_end, StoredFile, has_committed, FilesAfter, ServerEnd}
use Rattle.tftp_player.proofs.Common.{has_error_opcode, UnlessArmed, WrongPeer, dally_response, with_position}
use Rattle.tftp_player.proofs.Common.{KeepsStore, with_file, Kept_all, kept_by, CommitsLast, IsStored}
use Rattle.std.proofs.Common.{is_ok}
use Rattle.tftp_file.specs.Sink.{CommitsFreely}
use Rattle.tftp_ends.specs.Step.{after}
use Rattle.tftp_server.specs.Draft.{DraftingBecomes}
use Rattle.tftp_rules.proofs.SinkMoves.{same_bytes, still_committed}
use Rattle.tftp_player.proofs.ServerTurns.{stored_so, Drafts, held_files, seen}

-- ---- a complete end does nothing more: it answers at most
record Rests (action : Action) (from : Endpoint) (e : EndState) : Type 0 where
  pub response : Response
  pub is : action ≡ Respond response
  pub same : after response from e ≡ e.position

module _ (from : Endpoint) (bytes : List ℕ) (e0 : EndState) where
  abbrev end_in : Phase → EndState
  end_in phase = with_position (record e0.position { phase = phase }) e0

  abbrev RestsIn : Phase → Action → Type 0
  RestsIn phase action = Rests action from (end_in phase)

  rests_if : (phase : Phase) (b : Bool) (one two : Action) → RestsIn phase one → RestsIn phase two →
      RestsIn phase (if b then one else two)
  rests_if phase true one two h k = h
  rests_if phase false one two h k = k

  ignores : (phase : Phase) → RestsIn phase (Respond Ignore)
  ignores phase = record { response = Ignore; is = refl; same = refl }

  strange : (phase : Phase) → RestsIn phase (if has_error_opcode bytes then Respond Ignore else Respond WrongPeer)
  strange phase = search rules

  dallies : (phase : Phase) (n : ℕ) (decoded : Option Packet) → RestsIn phase (Respond (dally_response n decoded))
  dallies phase n decoded = search rules

  complete_rests : (phase : Phase) (decoded : Option Packet) → is_complete phase ≡ true →
      RestsIn phase (datagram_action (end_in phase) from bytes decoded)
  complete_rests phase decoded c = search (rules, true≢false, rests_if, strange, ignores, dallies)

-- ---- a datagram
-- a draft after a turn, and the server's files
pub record Leaves (turn : Turn) (d d' : Drafts) : Type 0 where
  pub files :
      FilesAfter d.replace (not d.draft.committed && d'.draft.committed) d.path d'.draft.bytes d.store.files
      d'.store.files
  pub commits : is_complete turn.position.phase ≡ false → d'.draft.committed ≡ false

-- nothing was committed
record IsUncommitted (d d' : Drafts) : Type 0 where
  pub path : d'.path ≡ d.path
  pub replace : d'.replace ≡ d.replace
  pub files : d'.store.files ≡ d.store.files
  pub not_yet : d'.draft.committed ≡ false

leaves_same : (turn : Turn) (d d' : Drafts) → d' ≡ d →
    (is_complete turn.position.phase ≡ false → d.draft.committed ≡ false) → Leaves turn d d'
leaves_same turn d d' same commits = search rules

leaves_uncommitted : (turn : Turn) (d d' : Drafts) → IsUncommitted d d' → Leaves turn d d'
leaves_uncommitted turn d d' u = search rules

-- ---- an append, and a commit
module _ (from : Endpoint) (bytes : List ℕ) (e : EndState) (turn : Turn) (d d' : Drafts) where
  appended_un : (piece : List ℕ) (mid : Drafts) (answer : Result Done StoreFault) → d.draft.committed ≡ false →
      Appended (drafting_sink memory_meaning) piece d mid answer → IsUncommitted d mid
  appended_un piece mid answer un h = search rules

  -- the last block was committed, or was not
  committed_leaves : (terms : Terms) (number : ℕ) (held : List ℕ) (mid : Drafts) (answer : Result Done StoreFault) →
      d.draft.committed ≡ false → IsUncommitted d mid →
      UnlessArmed mid.store.refuses (seen mid) (Some (seen d')) answer
      (CommitsFreely (seen mid) (Some (seen d')) answer) → DraftingBecomes memory_meaning mid d' (is_ok answer) →
      turn ≡ committed_turn terms number from (holding held e) answer → Leaves turn d d'
  committed_leaves terms number held mid (Ok done) un u h becomes is =
      let kept : Kept_all (seen mid) (seen d') (Ok done) = kept_by mid.store.refuses (seen mid) (seen d') (Ok done) h in
      let whole : d'.draft.bytes ≡ mid.draft.bytes = same_bytes kept in
      let put : d'.store.files ≡ with_file mid.store.files mid.path mid.draft.bytes =
      same_Some d'.store.files _ becomes.files.0 in
      let stored : IsStored mid.replace mid.path mid.draft.bytes mid.store.files d'.store.files =
      subst (IsStored mid.replace mid.path mid.draft.bytes mid.store.files) (sym put) (stored_so mid.replace mid.path
      mid.draft.bytes mid.store.files becomes.files.1) in
      let here : IsStored d.replace d.path d'.draft.bytes d.store.files d'.store.files =
      subst (λ (b : Bool). IsStored b d.path d'.draft.bytes d.store.files d'.store.files) u.replace (subst (λ (p : List
      ℕ). IsStored mid.replace p d'.draft.bytes d.store.files d'.store.files) u.path (subst (λ (z : List ℕ). IsStored
      mid.replace mid.path z d.store.files d'.store.files) (sym whole) (subst (λ (fs : FileList). IsStored mid.replace
      mid.path mid.draft.bytes fs d'.store.files) u.files stored))) in
      search rules
  committed_leaves terms number held mid (Err fault) un u h becomes is = leaves_uncommitted turn d d' (record {
    path = becomes.path ∙ u.path;
    replace = becomes.replace ∙ u.replace;
    files = same_Some d'.store.files mid.store.files becomes.files ∙ u.files;
    not_yet = still_committed fault (kept_by mid.store.refuses (seen mid) (seen d') (Err fault) h) ∙ u.not_yet;
  })

  goes_leaves :
      (terms : Terms) (number : ℕ) (last : Bool) (held : List ℕ) (mid : Drafts) (answer : Result Done StoreFault) →
      d.draft.committed ≡ false → IsUncommitted d mid →
      GoesOn (drafting_sink memory_meaning) terms number from e last held mid answer turn d' → Leaves turn d d'
  goes_leaves terms number h2 held mid h5 un u h = search (rules, leaves_uncommitted, committed_leaves)

  abbrev ActsSo : Action → Type 0
  ActsSo action =
      Acts memory_source (drafting_sink memory_meaning) action from bytes e (Sink d) turn (Sink d')

  -- an end that is not complete has committed nothing before
  acts_leaves : (action : Action) → d.draft.committed ≡ false → ActsSo action → Leaves turn d d'
  acts_leaves action un h = search (rules, leaves_same, goes_leaves, appended_un)

  rests_leaves : (action : Action) → Rests action from e →
      (is_complete e.position.phase ≡ false → d.draft.committed ≡ false) → ActsSo action → Leaves turn d d'
  rests_leaves action r commits h = search rules

  leaves_by : (decoded : Option Packet) (complete : Bool) → is_complete e.position.phase ≡ complete →
      (is_complete e.position.phase ≡ false → d.draft.committed ≡ false) →
      ActsSo (datagram_action e from bytes decoded) → Leaves turn d d'
  leaves_by decoded true c commits h = rests_leaves _ (complete_rests from bytes e _ decoded c) commits h
  leaves_by decoded false c commits h = acts_leaves (datagram_action e from bytes decoded) (commits c) h

-- of the end in the world whose transfer this is
pub record ServerEndLeaves (x : OpenEnd) (turn : Turn) (held : Files (List ℕ) Holding) (next : Files (List ℕ) Drafted)
    (overwrite : Bool) (files files' : List StoredFile) : Type 0 where
  pub files_after :
      FilesAfter overwrite (has_committed x (end_after x turn held)) x.path (end_after x turn held).stored files files'
  pub commits : CommitsLast next turn.position.phase

-- the end with these files
abbrev pub with_files : ServerEnd → Files (List ℕ) Drafted → ServerEnd
with_files s files = record s { transfer = record s.transfer { files = files } }

module _ (port : ℕ) (s : ServerEnd) (from : Endpoint) (bytes : List ℕ) (store store' : Stored) (path' : List ℕ)
    (replace : Bool) (turn : Turn) where
  -- a turn of a server's end leaves its draft and the server's files as the world has them
  pub served_leaves : (files files' : Files (List ℕ) Drafted) →
      StepIn memory_meaning memory_source from bytes s.transfer.end (files_in store s.transfer.path replace files) turn
      (files_in store' path' replace files') →
      KeepsStore files store store' → AreSame (λ (a b : List ℕ). ⊤) (λ (a b : Drafted). ⊤) files files' →
      CommitsLast files s.transfer.end.position.phase →
      ServerEndLeaves (served_end port (with_files s files)) turn (held_files store'.refuses files') files' replace
      store.files store'.files
  served_leaves (Source left) (Source left') h stays kind k =
      record { files_after = ap (λ (st : Stored). st.files) stays; commits = tt }
  served_leaves (Sink draft) (Sink draft') h stays kind k =
      let e = s.transfer.end in
      let l = leaves_by from bytes e turn _ _ h.decoded (is_complete e.position.phase) refl k h.acts in
      record { files_after = l.files; commits = l.commits }
  served_leaves files files' h stays kind k = absurd kind
