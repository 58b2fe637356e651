-- What is known of a client's file, before a step and after it.
use Rattle.tftp_promises.proofs.Common.{List, ℕ, ◌≡◌, rules, sym, Endpoint, refl, [], ◌∙◌, ap, SourceMeaning, Some}
use Rattle.tftp_promises.proofs.Common.{subst, StoreMeaning, ◌∷◌, SinkMeaning, None, ◌++◌, Programs, EndState, Contains}
use Rattle.tftp_promises.proofs.Common.{Files, SocketEvent, true≢false, ◌≢◌, Sent, joined, ClientOf, outcome_of}
use Rattle.tftp_promises.proofs.Common.{OpenEnd, client_at, Received, Snapshot, Turn, State, Moved, open_view, Sink}
use Rattle.tftp_promises.proofs.Common.{Source, Spells, moved_in, WirePacket, Contains-push, IsPrefixOf, after_turn}
use Rattle.tftp_promises.proofs.Common.{Elapsed, timeout_turn, DatagramStep, our_ports, Has_asked, Receives_one}
use Rattle.tftp_promises.proofs.Common.{ClientDoes, peer_of, Action, Watched, Printed, Quiet, answered, Role}
use Rattle.tftp_promises.proofs.Common.{Contains-append_left, Answers, Elsewhere, Acts, end_after, Waits_until}
use Rattle.tftp_promises.proofs.Common.{Times_out, HandlesReceived, Loses, Network, EndKept, is_some, File_works}
use Rattle.tftp_promises.proofs.Common.{Prints_line, Reads_clock, Elapses, files_of, CanTake, slice_get-set_same}
use Rattle.tftp_promises.proofs.Common.{client_did, IsError, step_moves, Slept, Stays, client_moves, DoesOwn, received}
use Rattle.tftp_promises.proofs.Common.{Stands, IsOpen, HandlesOwn, Watch, IsOtherAnswer, wait_at, same_ips, turned}
use Rattle.tftp_promises.proofs.Common.{elapsed, datagram_goes, IsAnswer, timeout_unblamed, KeepsFiles, timeout_goes}
use Rattle.tftp_promises.proofs.Common.{IsFromServer, handling_moves, AreSame, ⊤, AllByRecursion}
use Rattle.tftp_ends.specs.declared.side.Side.{Side}
use Rattle.tftp_ends.specs.Files.{AreFilesOf}
use Rattle.tftp_client.specs.Converses.{WorksOnFile}
use Rattle.tftp_promises.proofs.MovedFiles.{MovesOver, file_on, file_turned, sink_over, source_over}
use Rattle.tftp_promises.proofs.MovedSends.{gave_none, gave_still}
use Rattle.tftp_promises.proofs.Invariant.{AnySink, ClientGiven, HasFile, HasArrived, IsKept, IsFreshBy, ClientKept}
use Rattle.tftp_promises.proofs.Invariant.{IsOfClient}
use Rattle.tftp_promises.proofs.Texts.{pad_to}
use Rattle.tftp_promises.proofs.ClosedEnds.{answer_from_server}
use Rattle.tftp_promises.proofs.Orders.{IsSilent, added_by, answered_has, answered_sends, elapsed_silent, IsUnsent}
use Rattle.tftp_promises.proofs.Orders.{unsent_silent}
use Rattle.tftp_promises.proofs.KeptClients.{own, turn_keeps, stays_keeps}
use Rattle.tftp_promises.proofs.KeptServer.{silent_by}
use Rattle.tftp_promises.proofs.KeptViews.{arrives}
use Rattle.tftp_promises.proofs.Places.{clients_there, near_server, stranger_no_client}
use Rattle.tftp_promises.proofs.NewPlaces.{turn_unblamed}

module _ {G K : Type 0} (inputs : SourceMeaning G) (outputs : SinkMeaning K) where
  -- a step leaves a source or a sink
  acts_fit : (side : Side) (action : Action) (from : Endpoint) (bytes : List ℕ) (e : EndState) (files : Files G K)
      (turn : Turn) (files' : Files G K) →
      Acts inputs outputs action from bytes e files turn files' → AreFilesOf side files → AreFilesOf side files'
  acts_fit side action from bytes e files turn files' h fits = search rules

  pub step_fits : (side : Side) (from : Endpoint) (bytes : List ℕ) (e : EndState) (files : Files G K) (turn : Turn)
      (files' : Files G K) →
      DatagramStep inputs outputs from bytes e files turn files' → AreFilesOf side files → AreFilesOf side files'
  step_fits side from bytes e files turn files' h fits = search (rules, acts_fit)

module _ {S F D G K : Type 0} {stores : StoreMeaning S D} {sources : SourceMeaning F} {inputs : SourceMeaning G}
    {outputs : SinkMeaning K} (programs : Programs stores sources inputs outputs) (pad : ℕ)
    (client : ClientOf programs) (x : OpenEnd) (moved : Moved) where
  abbrev Has : Files G K → Type 0
  Has files = HasFile programs pad client x files moved

  -- its step at a datagram
  module _ (network : Network) (kept : EndKept network x) (still : outcome_of x.state.position.phase ≡ None)
      (from : Endpoint) (bytes : List ℕ) (turn : Turn) where
    pub step_over : (files files' : Files G K) → Has files →
        (step : DatagramStep inputs outputs from bytes x.state files turn files') →
        IsPrefixOf (step_moves inputs outputs from bytes x.state files turn files' step moved).bytes
        (moved_in client.runs).bytes → MovesOver (ClientGiven programs client) AnySink x from bytes turn files'
        (step_moves inputs outputs from bytes x.state files turn files' step moved)
    step_over (Source s) (Source s') h step told =
        source_over inputs outputs (ClientGiven programs client) AnySink x network kept still from bytes turn moved s s' pad
        (moved_in client.runs).bytes
        (λ sends. h.text sends ∙ ap (λ (r : Role). pad_to pad r.length (moved_in client.runs).bytes) (sym h.role)) step
        told (λ content now on g. record { first = g.first; is_first = g.is_first; since = on g.first g.since }) h.file
    step_over (Sink k) (Sink k') h step told =
        sink_over inputs outputs (ClientGiven programs client) AnySink x network kept still from bytes turn moved k k' k k'
        step (λ after now receives fate t. tt) h.file
    step_over (Source s) (Sink k) h step told =
        absurd (true≢false (sym h.file.0
        ∙ step_fits inputs outputs x.state.role.side from bytes x.state (Source s) turn (Sink k) step h.file.0))
    step_over (Sink k) (Source s) h step told =
        absurd (true≢false (sym (step_fits inputs outputs x.state.role.side from bytes x.state (Sink k) turn (Source s)
        step h.file.0) ∙ h.file.0))

  -- the file of an end that makes no turn by it
  pub file_same : (turn : Turn) (files : Files G K) →
      (outcome_of turn.position.phase ≡ None → outcome_of x.state.position.phase ≡ None) → Has files →
      HasFile programs pad client (end_after x turn (files_of x)) files moved
  file_same turn files still h = search (rules, file_turned, gave_still)

  -- a source that gave no bytes
  abbrev GivesNone : Files G K → Files G K → Type 0
  GivesNone files files' = AreSame (λ (a b : G). inputs.gives a [] b) (λ (a b : K). ⊤) files files'

  none_given : (files files' : Files G K) → GivesNone files files' → Has files → Has files'
  none_given files files' none h = assumption (file_on (ClientGiven programs client) AnySink x moved (λ s s' same g.
      record { first = g.first; is_first = g.is_first; since = gave_none g.since same }) (λ k k' same t. tt) files
      files' none h.file)

  -- after a datagram that was lost
  pub file_kept : (files files' : Files G K) → KeepsFiles inputs outputs files files' → Has files → Has files'
  file_kept files files' keeps h = none_given files files' (none_by files files' keeps) h where
    none_by : (files files' : Files G K) → KeepsFiles inputs outputs files files' → GivesNone files files'
    none_by files files' keeps = search rules

  -- after its own work
  pub file_worked : (files files' : Files G K) → WorksOnFile inputs outputs files files' → Has files → Has files'
  file_worked files files' works h = none_given files files' (none_by files files' works) h where
    none_by : (files files' : Files G K) → WorksOnFile inputs outputs files files' → GivesNone files files'
    none_by files files' works = search rules

-- Each step of a client keeps the invariant.

-- an answer is no ERROR
no_error_of : (p : WirePacket) (bytes : List ℕ) → Spells p bytes → IsAnswer p → IsError bytes → ⊥
no_error_of p bytes spells answer error = search rules

module _ {S F D G K : Type 0} {stores : StoreMeaning S D} {sources : SourceMeaning F} {inputs : SourceMeaning G}
    {outputs : SinkMeaning K} {programs : Programs stores sources inputs outputs} {pad : ℕ} {old : Snapshot programs}
    (kept : IsKept pad old) (fresh : IsFreshBy old) {a : Endpoint} (c : IsOfClient programs old.clients a) where
  open c use {k, client, found, s, files, noted, moved, is_stage}

  abbrev here : Endpoint
  here = client_at client

  -- its end before the step
  abbrev o : ClientKept programs pad kept.views kept.messages client s files moved
  o = own kept fresh c

  abbrev x : OpenEnd
  x = o.end

  -- its end is among all that is shown
  stands : Stands (joined programs) kept.shown.0 kept.views kept.messages o.viewed.index (open_view x)
  stands = search rules

  -- an open one has no outcome
  still_open : IsOpen s.end → outcome_of x.state.position.phase ≡ None
  still_open still = search rules

  -- what the client then has
  abbrev Then_keeps : State → Files G K → List SocketEvent → Moved → Type 0
  Then_keeps s' files' added moved' =
      IsKept pad (client_did old k (Has_asked s' files' (added ++ noted) moved'))

  -- what it has moved then begins what it moves in all
  pub told_now : (s' : State) (files' : Files G K) (noted' : List SocketEvent) (moved' : Moved) →
      IsFreshBy (client_did old k (Has_asked s' files' noted' moved')) →
      IsPrefixOf moved'.bytes (moved_in client.runs).bytes
  told_now s' files' noted' moved' now =
      now.gave k client (Has_asked s' files' noted' moved') found
      (slice_get-set_same old.clients k (Has_asked s' files' noted' moved') (Has_asked s files noted moved) is_stage)

  -- ---- a datagram
  module _ (from : Endpoint) (bytes : List ℕ) (watch : Watch) where
    -- the events of its receipt
    abbrev receipt : List SocketEvent
    receipt = Watched watch ∷ Received client.port from bytes ∷ Quiet (Slept (wait_at s)) ∷ []

    receipt_silent : IsSilent receipt
    receipt_silent = unsent_silent receipt (tt, (tt, (tt, tt)))

    -- an answer to an end without a peer comes from the server
    serves : HasArrived kept.messages from x.address bytes →
        (peer_of x.state.position.phase ≡ None → IsOtherAnswer programs.ip programs.others from bytes → ⊥) →
        IsFromServer (joined programs) x from bytes
    serves there takes_own no_peer same p spells answer =
        let near : from.ip ≡ programs.ip = sym (same_ips (joined programs).request_port from same) in
        answer_from_server _ _ _ kept.shown _ _ (near_server programs from near (λ other. takes_own no_peer (record {
          near = near;
          other = other;
          no_error = no_error_of p bytes spells answer;
        }))) (ap (joined programs).host_of
        o.address ∙ clients_there programs k client found) p answer (there p spells)

    -- the end answers it
    pub answers : HasArrived kept.messages from here bytes →
        ((joined programs).host_of from ≢ Elsewhere → (p : WirePacket) × Spells p bytes) → (turn : Turn)
        (files' : Files G K) (added : List SocketEvent) →
        IsOpen s.end → (step : DatagramStep inputs outputs from bytes s.end files turn files') →
        (peer_of s.end.position.phase ≡ None → IsOtherAnswer programs.ip programs.others from bytes → ⊥) →
        IsPrefixOf (step_moves inputs outputs from bytes s.end files turn files' step moved).bytes
        (moved_in client.runs).bytes → answered client.port turn.reply (receipt ++ s.events) ≡ added ++ s.events →
        Then_keeps (turned client.port turn (received client.port from bytes watch s)) files' added
        (step_moves inputs outputs from bytes s.end files turn files' step moved)
    answers arrived spelled turn files' added still step takes_own told events =
        let added_is = added_by client.port turn.reply receipt s.events added events in
        let there : HasArrived kept.messages from x.address bytes = rw (o.address) arrived in
        let from_server : IsFromServer (joined programs) x from bytes = serves there (rw (o.state) takes_own) in
        let Over : EndState → Type 0 = λ (e : EndState). (step : DatagramStep inputs outputs from bytes e files turn
        files') →
        IsPrefixOf (step_moves inputs outputs from bytes e files turn files' step moved).bytes (moved_in
        client.runs).bytes →
        MovesOver (ClientGiven programs client) AnySink x from bytes turn files' (step_moves inputs outputs from bytes e
        files turn files' step moved)
        in
        let over =
        subst Over o.state (λ step_x told_x. step_over programs pad client x moved (joined programs) o.viewed.kept
        (still_open still) from bytes turn files files' o.has step_x told_x) step told in
        let goes =
        datagram_goes (joined programs) kept.shown.0 kept.views kept.messages o.viewed.index x from bytes turn
        over.content (record {
          stands = stands;
          kept = o.viewed.kept;
          still = ap is_some (still_open still);
          last_sent = o.viewed.last_sent;
        }) there from_server over.steps in
        let unblamed =
        turn_unblamed kept fresh x o.viewed (still_open still) (λ same. fresh.ends.apart k programs.port client found
        (Contains-append_left (programs.port ∷ []) (our_ports programs old.run) programs.port (Contains-push []
        programs.port)) (sym o.address ∙ same)) from bytes there spelled from_server turn over.content over.steps in
        turn_keeps kept fresh c turn over.content goes (turned client.port turn (received client.port from bytes watch
        s)) refl files' (step_moves inputs outputs from bytes s.end files turn files' step moved) unblamed (record {
          role = o.has.role;
          text = o.has.text;
          file = over.file;
        }) added (λ port to b c. answered_sends client.port
        turn.reply receipt receipt_silent port to b
        (rw (added_is) c))

  -- ---- a timeout
  pub times_out : (added : List SocketEvent) → IsOpen s.end →
      answered client.port (timeout_turn s.end).reply (Elapsed client.port s.now ∷ s.events) ≡ added ++ s.events →
      Then_keeps (elapsed client.port s) files added moved
  times_out added still events =
      let turn = timeout_turn x.state in
      let goes = timeout_goes (joined programs) kept.shown.0 kept.views kept.messages o.viewed.index x (record {
        stands = stands;
        kept = o.viewed.kept;
        still = ap is_some (still_open still);
        last_sent = o.viewed.last_sent;
      }) in
      let added_is = added_by _ _ _ _ _ events in
      let same : timeout_turn s.end ≡ turn = ap timeout_turn (sym o.state) in
      turn_keeps kept fresh c turn (files_of x) goes (elapsed client.port s) (ap (after_turn s.end) same) files moved
      (timeout_unblamed (joined programs) kept.messages x.state o.viewed.unblamed) (file_same programs pad client x
      moved turn files (λ c. still_open still) o.has) added (λ port to b c. subst (λ (t : Turn). (client.port ≡ port) ×
      (t.reply ≡ Some (record { to = to; bytes = b }))) same (answered_sends client.port (timeout_turn s.end).reply
      (Elapsed client.port s.now ∷ []) (elapsed_silent client.port s.now) port to b (subst (λ (es : List SocketEvent).
      Contains es (Sent port to b)) (sym added_is) c)))

  -- ---- a step that leaves the end, and sends nothing
  pub rests : (s' : State) → s'.end ≡ s.end → (files' : Files G K) → HasFile programs pad client x files' moved →
      (now added : List SocketEvent) → AllByRecursion IsUnsent now → now ++ s.events ≡ added ++ s.events →
      Then_keeps s' files' added moved
  rests s' same files' has now added unsent events =
      stays_keeps kept fresh c _ same _ _ has _ (silent_by _ _ _ refl events (unsent_silent _ unsent))

module _ {S F D G K : Type 0} {stores : StoreMeaning S D} {sources : SourceMeaning F} {inputs : SourceMeaning G}
    {outputs : SinkMeaning K} {programs : Programs stores sources inputs outputs} {pad : ℕ} {old : Snapshot programs}
    (kept : IsKept pad old) (fresh : IsFreshBy old) {a : Endpoint} (c : IsOfClient programs old.clients a) where
  open c use {k, client, found, s, files, noted, moved, is_stage}

  -- a datagram is handled once it is among the messages
  handles : (from : Endpoint) (bytes : List ℕ) (watch : Watch) (next : State) (files' : Files G K) (added : List SocketEvent)
      (handled : HandlesReceived inputs outputs client.port from bytes (received client.port from bytes watch s) files
      next files') → HandlesOwn programs.ip programs.others handled →
      IsPrefixOf (handling_moves handled moved).bytes (moved_in client.runs).bytes →
      next.events ≡ added ++ s.events → CanTake old client.ip added → IsKept pad (client_did old k
      (Has_asked next files' (added ++ noted) (handling_moves handled moved)))
  handles from bytes watch next files' added (Answers {turn} still step) takes_own told events take =
      let receipt = Watched watch ∷ Received client.port from bytes ∷ Quiet (Slept (wait_at s)) ∷ [] in
      let receipt_in : Contains receipt (Received client.port from bytes) =
      Contains-append_left (Watched watch ∷ Received client.port from bytes ∷ []) (Quiet (Slept (wait_at s)) ∷ [])
      (Received client.port from bytes) (Contains-push (Watched watch ∷ []) (Received client.port from bytes)) in
      let added_is = added_by client.port turn.reply receipt s.events added events in
      let came =
      take client.port from bytes (subst (λ (es : List SocketEvent). Contains es (Received client.port from bytes))
      added_is (answered_has client.port turn.reply receipt (Received client.port from bytes) receipt_in)) in
      let a =
      arrives kept from (client_at client) bytes (stranger_no_client programs (client_at client) k
      client found refl) came in
      answers a.now fresh c from bytes watch a.come a.spelled turn files' added still step takes_own told events
  handles from bytes watch next files' added (Loses lost keeps) takes_own told events take =
      rests kept fresh c (received client.port from bytes watch s) refl files'
      (file_kept programs pad client (x kept fresh c) moved files files' keeps (o kept fresh c).has)
      (Watched watch ∷ Received client.port from bytes ∷ Quiet (Slept (wait_at s)) ∷ []) added (tt, (tt, (tt, tt))) events

  pub does_keeps : (s' : State) (files' : Files G K) (added : List SocketEvent)
      (does : ClientDoes inputs outputs client.port s files s' files') → DoesOwn programs.ip programs.others does →
      IsFreshBy (client_did old k (Has_asked s' files' (added ++ noted) (client_moves does moved))) →
      s'.events ≡ added ++ s.events → CanTake old client.ip added →
      IsKept pad (client_did old k (Has_asked s' files' (added ++ noted) (client_moves does moved)))
  does_keeps s' files' added (Receives_one {from = from} {bytes = bytes} {watch = watch} may later handled) takes_own now
      events take = handles from bytes watch s' files' added handled takes_own
      (told_now kept fresh c s' files' (added ++ noted) (handling_moves handled moved) now) events take
  does_keeps s' files' added (Times_out (Elapses due still)) takes_own now events take =
      times_out kept fresh c added still events
  does_keeps s' files' added (File_works work) takes_own now events take =
      rests kept fresh c s refl files' (file_worked programs pad client (x kept fresh c) moved files files' work
      (o kept fresh c).has) [] added tt events
  does_keeps s' files' added (Times_out (Stays why)) takes_own now events take =
      rests kept fresh c s refl files (o kept fresh c).has [] added tt events
  does_keeps s' files' added (Reads_clock progress {watch} later) takes_own now events take =
      rests kept fresh c s' refl files (o kept fresh c).has (Watched watch ∷ []) added (tt, tt) events
  does_keeps s' files' added (Waits_until {event = event} {watch = watch} may which later) takes_own now events take =
      rests kept fresh c s' refl files (o kept fresh c).has
      (Watched watch ∷ Quiet event ∷ Quiet (Slept (wait_at s)) ∷ []) added (tt, (tt, (tt, tt))) events
  does_keeps s' files' added (Prints_line line) takes_own now events take =
      rests kept fresh c s' refl files (o kept fresh c).has (Printed line ∷ []) added (tt, tt) events
