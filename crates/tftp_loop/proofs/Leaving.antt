-- A server sends no block but one that a source gave, to who asked for its file.
-- For the law a_server_sends_only_what_was_asked.
use Rattle.std.proofs.Common.{rules}
use Rattle.tftp_loop.proofs.Common.{arith, ◌≡◌, ◌≤◌, ◌⊎◌, ℕ, suc, Bool, List, [], ◌∷◌, ◌++◌, length, Option, Some, None}
use Rattle.tftp_loop.proofs.Common.{refl, sym, subst, ◌∙◌, All, slice_index_or, ⊤, AllByRecursion, values_of, Mode}
use Rattle.tftp_loop.proofs.Common.{RawOption, Packet, Read, SinkMeaning, SourceMeaning, Files, Source, Sink}
use Rattle.tftp_loop.proofs.Common.{datagram_action, EndState, Position, ServesRead, Acts, Reply, Turn, after_turn}
use Rattle.tftp_loop.proofs.Common.{error_bytes, timeout_turn, Action, Endpoint, Known, Limits, StoreMeaning}
use Rattle.tftp_loop.proofs.Common.{drafting_sink, Ask, Came, Nothing, Error_reply, A_transfer, left_by, TransferState}
use Rattle.tftp_loop.proofs.Common.{ServerState, at, with_new, with_next, KeepsHeld, with_end, WorksAt, SocketEvent}
use Rattle.tftp_loop.proofs.Common.{answered, Received, Elapsed, An_ack, A_block, Run, Start, Then, PortState}
use Rattle.tftp_loop.proofs.Common.{LoopState, PortStep, LoopStep, after_request, A_datagram, A_lost_datagram}
use Rattle.tftp_loop.proofs.Common.{A_timeout, Work, Waited, At_port, Request_received, Request_answered, Request_lost}
use Rattle.tftp_loop.proofs.Common.{Store_set, Transfer_closed}
use Rattle.std.specs.Prelude.{max}
use Rattle.std.specs.List.{Contains}
use Rattle.tftp_wire.specs.Spelling.{Spells}
use Rattle.tftp_file.specs.Source.{GivesInTurn, Gave_more, Gave_nothing}
use Rattle.tftp_ends.specs.Action.{Decodes}
use Rattle.tftp_ends.specs.Files.{AreSame, KeepsFiles}
use Rattle.tftp_negotiate.specs.Agreed.{size}
use Rattle.tftp_negotiate.specs.Laws.{AnswersWithinRequest, IsWithinRequest}
use Rattle.tftp_negotiate.specs.declared.known.Kind.{Kind}
use Rattle.tftp_negotiate.specs.declared.known.Known.TheVariants.{Blksize, Timeout, Tsize}
use Rattle.tftp_negotiate.specs.declared.limits.TheConstants.{DEFAULT_BLOCK}
use Rattle.tftp_server.specs.Draft.{Drafting, files_in}
use Rattle.tftp_server.specs.Port.{asks}
use Rattle.tftp_server.specs.Steps.{StepIn}
use Rattle.tftp_server.specs.Work.{FilesWork}
use Rattle.tftp_sockets.specs.Trace.SocketEvent.{Sent}
use Rattle.tftp_loop.specs.Leaving.{AskedFor, Asks, HasRoot, HasWritten, IsSaid, LeavesOnly, At_first, And_then}
use Rattle.tftp_loop.specs.Leaving.{An_error, An_oack, MayHappen, SendsOnlyGiven, largest_block}
use Rattle.tftp_loop.proofs.Adding.{Adds, port_adds}
use Rattle.tftp_loop.proofs.AnsweringEnds.{AnswersOne, GivesOnly, IsAt, NoBlock, SendsTo, To_other, To_peer}
use Rattle.tftp_loop.proofs.AnsweringEnds.{datagram_answers, timeout_answers}
use Rattle.tftp_loop.proofs.AskedFiles.{reads_by}
use Rattle.tftp_loop.proofs.HeldLemmas.{held_at, held_new, held_next, held_without}
use Rattle.tftp_loop.proofs.OpenedEnds.{BeginsAt, OpensFor, OpensIn, To_read, To_write, opens_for, serves_begins}
use Rattle.tftp_loop.proofs.OpenedEnds.{write_begins}
use Rattle.tftp_loop.proofs.PortEnds.{same_config}
use Rattle.tftp_loop.proofs.NewStates.{answer_is, state_is, trace_is, server_is}
use Rattle.tftp_negotiate.specs.declared.known.Kind.TheVariants as kinds

-- ---- what a list contains
contains_first : {T : Type 0} (x : T) (xs : List T) → Contains (x ∷ xs) x
contains_first x xs = (0, omega arith, refl)

contains_later : {T : Type 0} (x y : T) (xs : List T) → Contains xs y → Contains (x ∷ xs) y
contains_later x y xs c = let within = c.1 in (suc c.0, omega (arith, within), c.2)

contains_after : {T : Type 0} (y : T) (more xs : List T) → Contains xs y → Contains (more ++ xs) y
contains_after y [] xs c = c
contains_after y (x ∷ more) xs c = contains_later x y (more ++ xs) (contains_after y more xs c)

written_later : (event : SocketEvent) (events : List SocketEvent) (peer : Endpoint) → HasWritten peer events
    → HasWritten peer (event ∷ events)
written_later event events peer w = (w.0, w.1, contains_later event (Received w.0 peer w.1) events w.2)

-- ---- what may be sent
said_more : (P Q : List ℕ → Type 0) (bytes : List ℕ) → ((piece : List ℕ) → P piece → Q piece) → IsSaid P bytes
    → IsSaid Q bytes
said_more P Q bytes more (An_error reply is) = An_error reply is
said_more P Q bytes more (An_ack number is) = An_ack number is
said_more P Q bytes more (An_oack agreed is) = An_oack agreed is
said_more P Q bytes more (A_block number piece is given) = A_block number piece is (more piece given)

at_more : (Fits : ℕ → Type 0) (P Q : List ℕ → Type 0) (peer : Endpoint) (position : Position)
    → ((piece : List ℕ) → P piece → Q piece) → IsAt Fits P peer position → IsAt Fits Q peer position
at_more Fits P Q peer position more h = search (rules, said_more)

-- ---- the calls of a source
module _ {F K : Type 0} (sources : SourceMeaning F) (sinks : SinkMeaning K) where
  same_source : (a b : F) → ◌≡◌ {A = Files F K} (Source a) (Source b) → a ≡ b
  same_source a b e = cc

  no_source : (sink : K) (source : F) (P : Type 0) → ◌≡◌ {A = Files F K} (Sink sink) (Source source) → P
  no_source sink source P e = absurd (cc)

  -- a step gives what one call of the source gave, or does not use it
  acts_give : (action : Action) (from : Endpoint) (bytes : List ℕ) (e : EndState) (source : F) (turn : Turn) (source' : F)
      → Acts sources sinks action from bytes e (Source source) turn (Source source')
      → (source' ≡ source) ⊎ ((piece : List ℕ) × sources.gives source piece source')
  acts_give action from bytes e source turn source' h = search rules

module _ {S F D : Type 0} (meaning : StoreMeaning S D) (sources : SourceMeaning F) (root : List ℕ)
    (requests largest : ℕ) where
  -- ---- of one transfer
  abbrev Fits : ℕ → Type 0
  Fits size = size ≤ largest

  abbrev Asked : Endpoint → List SocketEvent → List ℕ → Type 0
  Asked peer events = AskedFor sources root requests largest peer events

  abbrev AsksOf : Endpoint → List SocketEvent → Type 0
  AsksOf peer events = Asks sources root requests largest peer events

  -- this source is left of it after so many calls
  record ReadsFor (peer : Endpoint) (events : List SocketEvent) (source : F) : Type 0 where
    asks : AsksOf peer events
    text : List ℕ
    given : GivesInTurn sources asks.first text source

  abbrev OfFiles : Endpoint → List SocketEvent → Files F D → Type 0
  OfFiles peer events (Source source) = ReadsFor peer events source
  OfFiles peer events (Sink draft) = ⊤

  -- what one call of the source gives was asked for
  gives_asked : (peer : Endpoint) (events : List SocketEvent) (source source' : F) (piece : List ℕ)
      → ReadsFor peer events source → sources.gives source piece source' → Fits (length piece)
      → Asked peer events piece
  gives_asked peer events source source' piece reads gives long = record {
    asks = reads.asks;
    gave = record { text = reads.text; before = source; after = source'; earlier = reads.given; gave = gives };
    long = long;
  }

  -- after a call
  reads_on : (peer : Endpoint) (events : List SocketEvent) (source source' : F) (piece : List ℕ)
      → ReadsFor peer events source → sources.gives source piece source' → ReadsFor peer events source'
  reads_on peer events source source' piece reads gives = search (reads.text ++ piece, Gave_more reads.given gives)

  abbrev asks_later : (event : SocketEvent) (events : List SocketEvent) (peer : Endpoint) → AsksOf peer events
      → AsksOf peer (event ∷ events)
  asks_later event events peer asks = record {
    request = asks.request;
    bytes = asks.bytes;
    spells = asks.spells;
    received = contains_later event (Received requests peer asks.bytes) events asks.received;
    path = asks.path;
    named = asks.named;
    first = asks.first;
    stated = asks.stated;
    opened = asks.opened;
  }

  asked_later : (event : SocketEvent) (events : List SocketEvent) (peer : Endpoint) (piece : List ℕ)
      → Asked peer events piece → Asked peer (event ∷ events) piece
  asked_later event events peer piece asked =
      record { asks = asks_later event events peer asked.asks; gave = asked.gave; long = asked.long }

  files_later : (event : SocketEvent) (events : List SocketEvent) (peer : Endpoint) (files : Files F D)
      → OfFiles peer events files → OfFiles peer (event ∷ events) files
  files_later event events peer (Source source) of =
      record { asks = asks_later event events peer of.asks; text = of.text; given = of.given }
  files_later event events peer (Sink draft) of = tt

  -- a transfer is with an endpoint that wrote, and sends what that asked for
  record IsFor (events : List SocketEvent) (transfer : TransferState F D) : Type 0 where
    peer : Endpoint
    at_peer : IsAt Fits (Asked peer events) peer transfer.end.position
    files : OfFiles peer events transfer.files
    written : HasWritten peer events

  for_later : (event : SocketEvent) (events : List SocketEvent) (transfer : TransferState F D) → IsFor events transfer
      → IsFor (event ∷ events) transfer
  for_later event events transfer is =
      search (
        at_more Fits (Asked is.peer events) (Asked is.peer (event ∷ events)) is.peer transfer.end.position (asked_later event events is.peer) is.at_peer,
        files_later event events is.peer transfer.files is.files,
        written_later event events is.peer is.written,
      )

  -- ---- of all
  abbrev AllFor : List SocketEvent → List (ℕ × TransferState F D) → Type 0
  AllFor events held = All (IsFor events) (values_of held)

  all_later : (event : SocketEvent) (events : List SocketEvent) (held : List (ℕ × TransferState F D))
      → AllFor events held → AllFor (event ∷ events) held
  all_later event events held all k d h = for_later event events (slice_index_or (values_of held) k d) (all k d h)

  -- the transfers are such, and each datagram that was sent since a trace may be
  record Leaves (before : List SocketEvent) (held : List (ℕ × TransferState F D)) (events : List SocketEvent)
      : Type 0 where
    transfers : AllFor events held
    only : LeavesOnly (AskedFor sources root requests largest) before events

  -- an event that is no datagram sent
  leaves_event : (before : List SocketEvent) (held : List (ℕ × TransferState F D)) (event : SocketEvent)
      (events : List SocketEvent) → MayHappen (AskedFor sources root requests largest) event events → Leaves before held events
      → Leaves before held (event ∷ events)
  leaves_event before held event events may leaves =
      search (all_later event events held leaves.transfers, And_then leaves.only may)

  leaves_next : (before : List SocketEvent) (port : ℕ) (held held' : List (ℕ × TransferState F D))
      (events : List SocketEvent) (transfer next : TransferState F D) → held' ≡ with_next port next held
      → (own : IsFor events transfer) → IsAt Fits (Asked own.peer events) own.peer next.end.position
      → OfFiles own.peer events next.files → Leaves before held events → Leaves before held' events
  leaves_next before port held held' events transfer next is own at_peer files leaves =
      search (rules, held_next)

  -- an answer is sent to an endpoint that wrote
  leaves_reply : (before : List SocketEvent) (held : List (ℕ × TransferState F D)) (port : ℕ) (to : Endpoint)
      (reply : Option Reply) (events : List SocketEvent) → SendsTo (Asked to events) to reply → HasWritten to events
      → Leaves before held events → Leaves before held (answered port reply events)
  leaves_reply before held port to None events sends written leaves = leaves
  leaves_reply before held port to (Some reply) events sends written leaves =
      leaves_event _ _ _ _ (rw (sends.0) (record { said = sends.1; written = written })) leaves

  no_block : (to : Endpoint) (events : List SocketEvent) (reply : Option Reply) → SendsTo NoBlock to reply
      → SendsTo (Asked to events) to reply
  no_block to events None sends = tt
  no_block to events (Some reply) sends =
      (sends.0, said_more NoBlock (Asked to events) reply.bytes (λ piece never. absurd never) sends.1)

  -- ---- at the port of a transfer
  abbrev drafts : SinkMeaning (Drafting S D)
  drafts = drafting_sink meaning

  module _ (from : Endpoint) (bytes : List ℕ) (e : EndState) (turn : Turn) (peer : Endpoint) (events : List SocketEvent)
      (store store' : S) (path path' : List ℕ) (replace : Bool) where
    abbrev Steps : Files F D → Files F D → Type 0
    Steps files files' =
        StepIn meaning sources from bytes e (files_in store path replace files) turn (files_in store' path' replace files')

    abbrev Gives : Files F D → Files F D → Type 0
    Gives files files' =
        GivesOnly Fits (Asked peer events) sources (files_in store path replace files) (files_in store' path' replace files')

    step_gives : (files files' : Files F D) → OfFiles peer events files → Gives files files'
    step_gives (Source own) files' of source source' piece size is is' gives fits long =
        gives_asked peer events source source' piece
        (subst (ReadsFor peer events) (same_source sources drafts own source is) of) gives (omega (arith, fits, long))
    step_gives (Sink draft) files' of source source' piece size is is' gives fits long =
        no_source sources drafts _ source (Asked peer events piece) is

    step_files : (files files' : Files F D) → Steps files files'
        → AreSame (λ (x y : F). ⊤) (λ (x y : D). ⊤) files files' → OfFiles peer events files → OfFiles peer events files'
    step_files files files' steps kind of = search (rules, acts_give, datagram_action, reads_on)

  -- a source that is kept gave nothing
  kept_files : (peer : Endpoint) (events : List SocketEvent) (store store' : S) (path path' : List ℕ) (replace : Bool)
      (files files' : Files F D)
      → KeepsFiles sources drafts (files_in store path replace files) (files_in store' path' replace files')
      → OfFiles peer events files → OfFiles peer events files'
  kept_files peer events store store' path path' replace files files' keeps of = search (rules, reads_on)

  worked_files : (peer : Endpoint) (events : List SocketEvent) (store store' : S) (files files' : Files F D)
      → FilesWork meaning sources store store' files files' → OfFiles peer events files → OfFiles peer events files'
  worked_files peer events store store' files files' works of = search (rules, reads_on)

  leaves_same : (before : List SocketEvent) (old new : ServerState S F D) (events : List SocketEvent) → new ≡ old
      → Leaves before old.held events → Leaves before new.held events
  leaves_same before old new events is leaves = rw is leaves

  lost : (before : List SocketEvent) (port : ℕ) (o : Option (TransferState F D)) (old new : ServerState S F D)
      (events : List SocketEvent) → at port old.held ≡ o → KeepsHeld meaning sources port o old new
      → Leaves before old.held events → Leaves before new.held events
  lost before port None old new events found keeps leaves = leaves_same before old new events keeps leaves
  lost before port (Some transfer) old new events found keeps leaves =
      let own = held_at (IsFor events) port old.held leaves.transfers found in
      leaves_next before port old.held new.held events transfer keeps.0 keeps.2 own (rw (keeps.1.end) own.at_peer)
      (kept_files own.peer events old.store new.store transfer.path keeps.0.path old.config.overwrite
      transfer.files keeps.0.files keeps.1.files own.files) leaves

  worked : (before : List SocketEvent) (port : ℕ) (o : Option (TransferState F D)) (old new : ServerState S F D)
      (events : List SocketEvent) → at port old.held ≡ o → WorksAt meaning sources port o old new
      → Leaves before old.held events → Leaves before new.held events
  worked before port None old new events found works leaves = leaves_same before old new events works leaves
  worked before port (Some transfer) old new events found works leaves =
      let own = held_at (IsFor events) port old.held leaves.transfers found in
      leaves_next before port old.held new.held events transfer works.0 works.2 own (rw (works.1.rest) own.at_peer)
      (worked_files own.peer events old.store new.store transfer.files works.0.files works.1.files own.files) leaves

  -- the newest datagram of an end went to this peer
  at_own : (peer : Endpoint) (events : List SocketEvent) (e : EndState) → IsAt Fits (Asked peer events) peer e.position
      → IsAt Fits (Asked peer events) e.position.last_sent_to e.position
  at_own peer events e is = subst (λ (p : Endpoint). IsAt Fits (Asked peer events) p e.position) (sym is.to) is

  module _ (before : List SocketEvent) (port : ℕ) (old new : ServerState S F D) (events : List SocketEvent)
      (leaves : Leaves before old.held events) where
    -- a transfer handled a datagram, and its answer is sent
    answers : (transfer next : TransferState F D) (from : Endpoint) (turn : Turn) (is : IsFor events transfer)
        → next.end ≡ after_turn transfer.end turn → OfFiles is.peer events next.files
        → new.held ≡ with_next port next old.held → HasWritten from events
        → AnswersOne Fits (Asked is.peer events) from transfer.end turn
        → Leaves before new.held (answered port turn.reply events)
    answers transfer next from turn is end files held written (To_other same sends) =
        leaves_reply before new.held port from turn.reply events (no_block from events turn.reply sends) written
        (leaves_next before port old.held new.held events transfer next held is (rw (end, same) is.at_peer) files leaves)
    answers transfer next from turn is end files held written (To_peer own done) =
        let peer : from ≡ is.peer = own ∙ is.at_peer.to in
        leaves_reply before new.held port is.peer turn.reply events
        (rw peer at done.sends) is.written
        (leaves_next before port old.held new.held events transfer next held is (rw end (rw peer at done.position)) files
        leaves)

  -- the datagram that was just received
  has_written : (port : ℕ) (from : Endpoint) (bytes : List ℕ) (events : List SocketEvent)
      → HasWritten from (Received port from bytes ∷ events)
  has_written port from bytes events = (port, bytes, contains_first (Received port from bytes) events)

  port_leaves : (before : List SocketEvent) (now : ℕ) (s t : PortState S F D) → PortStep meaning sources now s t
      → Leaves before s.server.held s.events → Leaves before t.server.held t.events
  port_leaves before now s t (A_datagram d) leaves =
      let takes = d.handles.takes in
      let step = takes.takes in
      let port = s.timer.port in
      let es = Received port d.from d.bytes ∷ s.events in
      let came = leaves_event before s.server.held (Received port d.from d.bytes) s.events tt leaves in
      let own = held_at (IsFor es) port s.server.held came.transfers takes.found in
      let gives = step_gives d.from d.bytes takes.transfer.end step.turn own.peer es s.server.store t.server.store
      takes.transfer.path takes.next.path s.server.config.overwrite takes.transfer.files takes.next.files own.files in
      let files = step_files d.from d.bytes takes.transfer.end step.turn own.peer es s.server.store t.server.store
      takes.transfer.path takes.next.path s.server.config.overwrite takes.transfer.files takes.next.files step.steps
      step.kind own.files in
      let one = datagram_answers Fits (Asked own.peer es) (at_own own.peer es takes.transfer.end own.at_peer) gives
      step.steps in
      subst (Leaves before t.server.held) (sym d.handles.events)
      (answers before port s.server t.server es came takes.transfer takes.next d.from step.turn own step.carries.state
      files takes.held (has_written port d.from d.bytes s.events) one)
  port_leaves before now s t (A_lost_datagram d) leaves =
      subst (Leaves before t.server.held) (sym d.events)
      (lost before s.timer.port (at s.timer.port s.server.held) s.server t.server
      (Received s.timer.port d.from d.bytes ∷ s.events) refl d.loses.keeps
      (leaves_event before s.server.held (Received s.timer.port d.from d.bytes) s.events tt leaves))
  port_leaves before now s t (A_timeout d) leaves =
      let times_out = d.times_out.times_out in
      let transfer = times_out.transfer in
      let port = s.timer.port in
      let es = Elapsed port now ∷ s.events in
      let came = leaves_event before s.server.held (Elapsed port now) s.events tt leaves in
      let own = held_at (IsFor es) port s.server.held came.transfers times_out.found in
      subst (Leaves before t.server.held) (sym d.times_out.events)
      (answers before port s.server t.server es came transfer (with_end times_out.end transfer)
      transfer.end.position.last_sent_to (timeout_turn transfer.end) own times_out.carries.state own.files times_out.held
      (rw (own.at_peer.to) own.written)
      (To_peer refl (timeout_answers Fits (Asked own.peer es) transfer.end (at_own own.peer es transfer.end own.at_peer))))
  port_leaves before now s t (Work d) leaves =
      subst (Leaves before t.server.held) (sym d.events)
      (worked before s.timer.port (at s.timer.port s.server.held) s.server t.server s.events refl d.works.works leaves)
  port_leaves before now s t does leaves =
      subst (Leaves before t.server.held) (sym (trace_is does))
      (leaves_same before s.server t.server _ (server_is does) (leaves_event before s.server.held _ s.events tt leaves))

  -- ---- at the request port
  abbrev PendingIn : List SocketEvent → Option (Endpoint × List ℕ) → Type 0
  PendingIn events None = ⊤
  PendingIn events (Some pending) = Contains events (Received requests pending.0 pending.1)

  pending_later : (event : SocketEvent) (events : List SocketEvent) (pending : Option (Endpoint × List ℕ))
      → PendingIn events pending → PendingIn (event ∷ events) pending
  pending_later event events pending in_it = search (rules, contains_later)

  pending_added : (events later : List SocketEvent) → Adds events later → (pending : Option (Endpoint × List ℕ))
      → PendingIn events pending → PendingIn later pending
  pending_added events later adds None in_it = tt
  pending_added events later adds (Some pending) in_it =
      rw (adds.is) (contains_after (Received requests pending.0 pending.1) adds.more events in_it)

  record AreLeaving (before : List SocketEvent) (s : LoopState S F D) : Type 0 where
    requests_at : s.requests ≡ requests
    block : largest_block s.server.config ≡ largest
    pending : PendingIn s.events s.pending
    leaves : Leaves before s.server.held s.events

  -- the request port and the largest block are as before
  still : {before : List SocketEvent} {s t : LoopState S F D} → AreLeaving before s → t.requests ≡ s.requests
      → t.server.config ≡ s.server.config → PendingIn t.events t.pending → Leaves before t.server.held t.events
      → AreLeaving before t
  still are port config pending leaves = search rules

  module _ (old : ServerState S F D) (from : Endpoint) (bytes : List ℕ) (es : List SocketEvent)
      (received : Contains es (Received requests from bytes)) (root_is : meaning.root old.store ≡ root)
      (block_is : largest_block old.config ≡ largest) (within : AnswersWithinRequest) where
    agreed_within : (options : List RawOption) (kind : Kind) (count : ℕ) (limits : Limits) (known : List Known)
        → AllByRecursion (IsWithinRequest options kind count limits) known
        → size known ≤ max DEFAULT_BLOCK limits.max_block
    agreed_within options kind count limits [] all = omega arith
    agreed_within options kind count limits (Blksize n ∷ known) all = let few = all.0.0 in omega (arith, few)
    agreed_within options kind count limits (Timeout n ∷ known) all =
        agreed_within options kind count limits known all.1
    agreed_within options kind count limits (Tsize n ∷ known) all =
        agreed_within options kind count limits known all.1

    -- what a source gave until its end began
    served_given : (agreed : List Known) (mode : Mode) (count retries : ℕ) (source rest : F) (e : EndState)
        → ServesRead sources agreed from mode count retries source rest e
        → (text : List ℕ) × GivesInTurn sources source text rest
    served_given [] mode count retries source rest e serves = (serves.0, Gave_more Gave_nothing serves.3)
    served_given (known ∷ others) mode count retries source rest e serves = ([], rw (serves.0) Gave_nothing)

    module _ (repeated : Bool) (decoded : Option Packet) (says : Decodes bytes decoded) where
      abbrev ask : Ask
      ask = asks old.config.cap (length old.held) repeated old.config.limits bytes decoded

      opened_for : (transfer : TransferState F D) → OpensFor meaning sources old from bytes ask transfer
          → IsFor es transfer × (transfer.end.position.last_sent_to ≡ from)
          × IsSaid (Asked from es) transfer.end.position.last_sent
      opened_for transfer (To_read path mode options agreed file rest is opened same serves files) =
          let most = agreed_within options kinds.Read file.length old.config.limits agreed (within options kinds.Read
          mode file.length old.config.limits agreed same) in
          let fits : Fits (size agreed) = omega (arith, most, block_is) in
          let asked = reads_by old.config.limits old.config.cap (length old.held) repeated bytes decoded path mode
          options
          is in
          let spells : Spells (Read asked.request) bytes = rw (asked.packet) at says in
          let opens : sources.opens root path asked.request.mode file.length file.source =
          rw (asked.same_mode) (rw root_is at opened) in
          let given = served_given agreed mode file.length old.config.retries file.source rest transfer.end serves in
          let asks : AsksOf from es = search in
          let reads : ReadsFor from es rest = record { asks = asks; text = given.0; given = given.1 } in
          let opened_now : ReadsFor from es file.source = record { asks = asks; text = []; given = Gave_nothing } in
          let begins = serves_begins Fits (Asked from es) old.config.retries from sources agreed mode file.length
          file.source
          rest transfer.end fits (λ piece gave long. gives_asked from es file.source rest piece opened_now gave (omega
          (arith, long, fits))) serves in (
            record {
              peer = from;
              at_peer = begins.at;
              files = subst (OfFiles from es) (sym files) reads;
              written = (requests, bytes, received);
            },
            begins.at.to,
            begins.at.said,
          )
      opened_for transfer (To_write agreed mode draft end files) =
          let begins = subst (BeginsAt Fits (Asked from es) old.config.retries from) (sym end) (write_begins Fits (Asked
          from es) old.config.retries from agreed mode) in (
            record {
              peer = from;
              at_peer = begins.at;
              files = subst (OfFiles from es) (sym files) tt;
              written = (requests, bytes, received);
            },
            begins.at.to,
            begins.at.said,
          )

  module _ (before : List SocketEvent) (s : LoopState S F D) (from : Endpoint) (bytes : List ℕ) (tid : ℕ)
      (are : AreLeaving before s) (received : Contains s.events (Received requests from bytes))
      (root_is : meaning.root s.server.store ≡ root) (within : AnswersWithinRequest) (repeated : Bool) (decoded : Option Packet)
      (says : Decodes bytes decoded) where
    by_came : (came : Came S F D)
        → OpensIn meaning sources s.server from bytes
        (ask s.server from bytes s.events received root_is are.block within repeated decoded says) came
        → AreLeaving before (after_request s from (left_by came s.server from tid))
    by_came Nothing opened = still are refl refl tt are.leaves
    by_came (Error_reply reply store) opened =
        still are refl refl tt
        (leaves_event before s.server.held (Sent s.requests from (error_bytes reply)) s.events
        (record { said = An_error reply refl; written = (requests, bytes, received) }) are.leaves)
    by_came (A_transfer transfer store) opened =
        let own = opened_for s.server from bytes s.events received root_is are.block within repeated decoded says transfer opened in
        let held : Leaves before (with_new tid transfer s.server.held) s.events = record {
          transfers = held_new (IsFor s.events) tid s.server.held transfer are.leaves.transfers own.0;
          only = are.leaves.only;
        } in
        still are refl refl tt
        (leaves_event before (with_new tid transfer s.server.held) (Sent tid from transfer.end.position.last_sent) s.events
        (record { said = own.2; written = (requests, bytes, received) }) held)

  -- ---- in a run
  step_leaves : (before : List SocketEvent) (s t : LoopState S F D) → LoopStep meaning sources s t → AnswersWithinRequest
      → meaning.root s.server.store ≡ root → AreLeaving before s → AreLeaving before t
  step_leaves before s t (Waited d) within root_is are =
      subst (AreLeaving before) (sym d.is) (still are refl refl (pending_added _ _ (record {
        more = _ ∷ _ ∷ _ ∷ [];
        is
            = refl;
      }) _ are.pending) (leaves_event _ _ _ _ tt (leaves_event _ _ _ _ tt (leaves_event _ _ _ _ tt are.leaves))))
  step_leaves before s t (At_port d) within root_is are =
      subst (AreLeaving before) (sym d.is) (still are refl (same_config d.does) (pending_added _ _ (port_adds _ _ _ _ _
      d.does) _ are.pending) (port_leaves _ _ _ _ d.does are.leaves))
  step_leaves before s t (Request_received d) within root_is are =
      subst (AreLeaving before) (sym d.is) (still are refl refl (subst (λ port. Contains (Received port d.from d.bytes ∷
      s.events) (Received requests d.from d.bytes)) (sym are.requests_at) (contains_first (Received requests d.from
      d.bytes) s.events)) (leaves_event _ _ _ _ tt are.leaves))
  step_leaves before s t (Request_answered d) within root_is are =
      let received = subst (PendingIn s.events) d.pending are.pending in
      subst (AreLeaving before) (sym (answer_is d)) (by_came before s d.from d.bytes d.tid are received root_is within
      d.steps.repeated d.steps.decoded d.steps.says d.steps.came (opens_for meaning sources s.server d.from d.bytes _
      d.steps.came d.steps.goes))
  step_leaves before s t (Request_lost d) within root_is are =
      subst (AreLeaving before) (sym d.is) (still are refl refl tt are.leaves)
  step_leaves before s t (Store_set d) within root_is are =
      subst (AreLeaving before) (sym d.is) (still are refl refl are.pending are.leaves)
  step_leaves before s t (Transfer_closed d) within root_is are =
      subst (AreLeaving before) (sym d.is) (still are refl refl (pending_later _ _ _ are.pending) (leaves_event _ _ _ _
      tt (record {
        transfers = held_without (IsFor s.events) d.timer.port _ are.leaves.transfers;
        only = are.leaves.only;
      })))
  step_leaves before s t does within root_is are =
      subst (AreLeaving before) (sym (state_is does)) (still are refl refl (pending_later _ _ _ are.pending)
      (leaves_event _ _ _ _ tt are.leaves))

  leaves_along : (before : List SocketEvent) (s t : LoopState S F D) → AnswersWithinRequest
      → HasRoot meaning sources root s
      → AreLeaving before s → Run (LoopStep meaning sources) s t → AreLeaving before t
  leaves_along before s t within has are Start = are
  leaves_along before s t within has are (Then {middle} run does) =
      step_leaves before middle t does within (has middle run) (leaves_along before s middle within has are run)

-- the law
pub sends_only_given : {S F D : Type 0} (meaning : StoreMeaning S D) (sources : SourceMeaning F)
    → AnswersWithinRequest → SendsOnlyGiven meaning sources
sends_only_given meaning sources within root start now none idle has run =
    let largest = largest_block start.server.config in
    let first : AreLeaving meaning sources root start.requests largest start.events start = record {
      requests_at = refl;
      block = refl;
      pending = rw idle tt;
      leaves = record { transfers = rw none (λ k d h. absurd (omega (arith, h))); only = At_first };
    } in
    (leaves_along meaning sources root start.requests largest start.events start now within has first run).leaves.only
