-- A step of the server keeps the invariant, if it does of the transfers and of what was said.
use Rattle.std.proofs.Common.{rules as std_rules}
use Rattle.tftp_promises.proofs.Common.{List, ℕ, ◌≡◌, rules, sym, Endpoint, [], ◌∙◌, ap, SourceMeaning, Some, subst}
use Rattle.tftp_promises.proofs.Common.{inl, StoreMeaning, inr, SinkMeaning, ◌++◌, Programs, ◌⊎◌, Contains, Files}
use Rattle.tftp_promises.proofs.Common.{SocketEvent, Option, LoopState, slice_get, TransferState, LoopStep, Sent}
use Rattle.tftp_promises.proofs.Common.{joined, ClientOf, OpenEnd, client_at, endpoint, Snapshot, IsStranger, Moved}
use Rattle.tftp_promises.proofs.Common.{Sink, Source, Message, EndView, server_did, IsShown, WasSentBefore, place_at}
use Rattle.tftp_promises.proofs.Common.{moved_at, Contains-append_cases, IsAmong, opened_at, Removes, append-nil}
use Rattle.tftp_promises.proofs.Common.{or_before, append_cancel_right, Run, Then, Bool, true, false, ◌≢◌}
use Rattle.tftp_promises.proofs.Common.{Contains-append_right}
use Rattle.tftp_promises.proofs.Invariant.{IsThere, HasTransferBy, TransferKept, IsOfClient, IsOfTransfer, IsKept}
use Rattle.tftp_promises.proofs.Invariant.{IsGiven, FileSo, AreApart, HasStored, IsTaken, StandsAt, apart_once}
use Rattle.tftp_promises.proofs.Invariant.{same_transfer}
use Rattle.tftp_promises.proofs.KeptViews.{HasCome, TurnsHere, arrived_still, rests, sent_still, stage_still}
use Rattle.tftp_promises.proofs.KeptViews.{viewed_still}
use Rattle.tftp_promises.proofs.Places.{placed_by, places}
use Rattle.tftp_promises.proofs.MovedSteps.{MovesNone}
use Rattle.tftp_promises.proofs.Orders.{IsSilent}

-- what was sent of these events is among these messages, unless it is for a stranger
abbrev pub AreSent : {S F D G K : Type 0} {stores : StoreMeaning S D} {sources : SourceMeaning F}
    {inputs : SourceMeaning G} {outputs : SinkMeaning K} (programs : Programs stores sources inputs outputs) →
    List Message → List SocketEvent → Type 0
AreSent programs messages added =
    (port : ℕ) (to : Endpoint) (bytes : List ℕ) → Contains added (Sent port to bytes) →
    IsThere messages (endpoint programs.ip port) to bytes ⊎ IsStranger programs to

-- a step sent nothing, if it noted these events, of which none was sent
pub silent_by : (noted added rest : List SocketEvent) {events : List SocketEvent} → events ≡ noted ++ rest →
    events ≡ added ++ rest → IsSilent noted → IsSilent added
silent_by noted added rest is added_is silent = rw (← append_cancel_right noted added rest (sym is ∙ added_is)) silent

module _ {S F D G K : Type 0} {stores : StoreMeaning S D} {sources : SourceMeaning F} {inputs : SourceMeaning G}
    {outputs : SinkMeaning K} (programs : Programs stores sources inputs outputs) where
  -- what its source gave, or its draft took, is known by a longer run
  pub file_later : {old new : LoopState S F D} (run : Run (LoopStep stores sources) programs.server.start old)
      (does : LoopStep stores sources old new) (x : OpenEnd) (moved : Moved) (files : Files F D) →
      FileSo (IsGiven programs run) (IsTaken programs run) files x moved →
      FileSo (IsGiven programs (Then run does)) (IsTaken programs (Then run does)) files x moved
  file_later run does x moved (Source source) h = (
    h.0,
    h.1,
    record { opening = h.2.opening; first = inr h.2.first; long = h.2.long; since = h.2.since },
  )
  file_later run does x moved (Sink draft) h = search std_rules

module _ {S F D G K : Type 0} {stores : StoreMeaning S D} {sources : SourceMeaning F} {inputs : SourceMeaning G}
    {outputs : SinkMeaning K} {programs : Programs stores sources inputs outputs} where
  -- what is known of a transfer's file stays known where nothing moves
  pub stored_after : (pad : ℕ) (old : Snapshot programs) {new : LoopState S F D}
      (does : LoopStep stores sources old.state new) (added : List SocketEvent) (x : OpenEnd) →
      MovesNone programs old.run does x.address → (files : Files F D) → HasStored pad old x files →
      HasStored pad (server_did old does added) x files
  stored_after pad old does added x none files h =
      search (
        ap (λ (o : Option (TransferState F D)). or_before o (opened_at programs x.address old.run)) none.opens ∙ h.opened.opened,
        subst (λ (m : Moved). FileSo (IsGiven programs (Then old.run does)) (IsTaken programs (Then old.run does))
            files x m) (sym (none.moves (moved_at programs x.address old.run))) (file_later programs old.run does x _
            files h.file),
      )

module _ {S F D G K : Type 0} {stores : StoreMeaning S D} {sources : SourceMeaning F} {inputs : SourceMeaning G}
    {outputs : SinkMeaning K} {programs : Programs stores sources inputs outputs} {pad : ℕ}
    {old : Snapshot programs} (kept : IsKept pad old) {new : LoopState S F D}
    (does : LoopStep stores sources old.state new) (added : List SocketEvent) where
  abbrev then : Snapshot programs
  then = server_did old does added

  module _ {Here : Endpoint → Type 0} (turns : TurnsHere kept Here)
      (sends : AreSent programs (kept.messages ++ turns.said_now) added) (pending : HasCome kept new.pending)
      (no_client : (k : ℕ) (client : ClientOf programs) → slice_get programs.clients k ≡ Some client →
      Here (client_at client) → ⊥) (apart : AreApart then)
      (known : (port : ℕ) (transfer : TransferState F D) (a : Endpoint) → HasTransferBy then port transfer a →
      Contains (places programs then.run) a)
      (transfers : (port : ℕ) (transfer : TransferState F D) (a : Endpoint) → HasTransferBy then port transfer a →
      TransferKept pad turns.next (kept.messages ++ turns.said_now) then port transfer a)
      (there : (a : Endpoint) → IsOfTransfer old a ⊎ Here a → IsOfTransfer then a) where
    abbrev messages : List Message
    messages = kept.messages ++ turns.said_now

    abbrev Arrives : Endpoint → Endpoint → List ℕ → Type 0
    Arrives from to bytes = IsThere messages from to bytes ⊎ IsStranger programs to

    before : (from to : Endpoint) (bytes : List ℕ) → WasSentBefore old from to bytes → Arrives from to bytes
    before from to bytes h = sent_still programs kept.messages turns.said_now (kept.sent from to bytes h)

    all_sent : (from to : Endpoint) (bytes : List ℕ) → WasSentBefore then from to bytes → Arrives from to bytes
    all_sent from to bytes (inl h) = elim (Contains-append_cases added old.noted (Sent h.port to bytes) h.sent) [
      | inl c ↦ subst (λ (a : Endpoint). Arrives a to bytes) (sym h.at) (sends h.port to bytes c)
      | inr c ↦ before from to bytes (inl (record { port = h.port; at = h.at; sent = c }))
    ]
    all_sent from to bytes (inr h) = before from to bytes (inr h)

    all_views : (view : EndView) → IsAmong turns.next view →
        IsOfClient programs then.clients view.address ⊎ IsOfTransfer then view.address
    all_views view among = search rules

    pub server_keeps : IsKept pad then
    server_keeps = record {
      views = turns.next;
      messages = messages;
      shown = turns.shown;
      sent = all_sent;
      server = search (std_rules, arrived_still, apart, apart_once);
      clients = λ k client stage found is.
          stage_still turns.said_now client stage (λ z here h.
          turns.others z (λ at. no_client k client found (rw (← here) at)) h) (kept.clients k client stage found is);
      transfers = transfers;
      only = all_views;
    }

  -- ---- a step that changes one transfer, which is at this place then, and leaves all others
  module _ (g : Bool) (port : ℕ) (transfer : TransferState F D) (place : Endpoint)
      (stands : StandsAt then g port transfer place)
      (from : (h : Bool) (q : ℕ) (u : TransferState F D) (a : Endpoint) → StandsAt then h q u a →
      ((h ≡ g) × (q ≡ port) × (u ≡ transfer) × (a ≡ place)) ⊎ ((place ≢ a) × StandsAt old h q u a))
      (onto : (h : Bool) (q : ℕ) (u : TransferState F D) (a : Endpoint) → StandsAt old h q u a →
      (place ≡ a) ⊎ StandsAt then h q u a) (known : Contains (places programs then.run) place)
      (no_client : (k : ℕ) (client : ClientOf programs) → slice_get programs.clients k ≡ Some client →
      client_at client ≢ place) (none : (a : Endpoint) → place ≢ a → MovesNone programs old.run does a)
      (turns : TurnsHere kept (λ (a : Endpoint). place ≡ a))
      (sends : AreSent programs (kept.messages ++ turns.said_now) added) (pending : HasCome kept new.pending)
      (own : TransferKept pad turns.next (kept.messages ++ turns.said_now) then port transfer place) where
    apart : AreApart then
    apart h k p q t u a x y = search std_rules

    -- of each transfer
    of_each : (P : ℕ → TransferState F D → Endpoint → Type 0) → P port transfer place →
        ((q : ℕ) (u : TransferState F D) (a : Endpoint) → place ≢ a → HasTransferBy old q u a → P q u a) →
        (q : ℕ) (u : TransferState F D) (a : Endpoint) → HasTransferBy then q u a → P q u a
    of_each P this others q u a (inl h) = elim (from true q u a h) [
      | inl e ↦ rw (e.1, e.2, e.3) this
      | inr was ↦ others q u a was.0 (inl was.1)
    ]
    of_each P this others q u a (inr h) = elim (from false q u a h) [
      | inl e ↦ rw (e.1, e.2, e.3) this
      | inr was ↦ others q u a was.0 (inr was.1)
    ]

    other : (q : ℕ) (u : TransferState F D) (a : Endpoint) → place ≢ a → HasTransferBy old q u a →
        TransferKept pad turns.next (kept.messages ++ turns.said_now) then q u a
    other q u a n is =
        let h = kept.transfers q u a is in
        let away : place ≢ h.end.address = λ same. n (same ∙ h.address) in
        same_transfer h (turns.others h.end away h.viewed)
        (stored_after pad old does added h.end (none h.end.address away) u.files h.has)

    this_one : (h : Bool) → StandsAt then h port transfer place → IsOfTransfer then place
    this_one true e = record { port = port; transfer = transfer; is_transfer = inl e }
    this_one false e = record { port = port; transfer = transfer; is_transfer = inr e }

    there : (a : Endpoint) → IsOfTransfer old a ⊎ (place ≡ a) → IsOfTransfer then a
    there a (inr here) = rw (← here) (this_one g stands)
    there a (inl h) = by h.is_transfer where
      still : (place ≡ a) ⊎ HasTransferBy then h.port h.transfer a → IsOfTransfer then a
      still (inl here) = rw (← here) (this_one g stands)
      still (inr e) = record { port = h.port; transfer = h.transfer; is_transfer = e }

      by : HasTransferBy old h.port h.transfer a → IsOfTransfer then a
      by (inl e) = elim (onto true h.port h.transfer a e) [ inl here ↦ still (inl here) | inr f ↦ still (inr (inl f)) ]
      by (inr e) = elim (onto false h.port h.transfer a e) [ inl here ↦ still (inl here) | inr f ↦ still (inr (inr f)) ]

    pub seat_keeps : IsKept pad then
    seat_keeps =
        server_keeps turns sends pending (λ k client found same. no_client k client found (sym same)) apart (of_each _
        known (λ q u a n is. Contains-append_right (placed_by programs old.run does) (places programs old.run) a
        (kept.server.opened q u a is))) (of_each _ own other) there

-- A step of the server that changes no transfer keeps the invariant, if what it sends is shown.

module _ {S F D G K : Type 0} {stores : StoreMeaning S D} {sources : SourceMeaning F} {inputs : SourceMeaning G}
    {outputs : SinkMeaning K} {programs : Programs stores sources inputs outputs} {pad : ℕ}
    {old : Snapshot programs} (kept : IsKept pad old) {new : LoopState S F D}
    (does : LoopStep stores sources old.state new) where
  -- it opens and removes no transfer, and each is where it was
  pub record ServerStays : Type 0 where
    pub seats : (port : ℕ) → place_at programs port (server_did old does []).run ≡ place_at programs port old.run
    pub removes : (port : ℕ) (transfer : TransferState F D) → Removes does port transfer → ⊥
    pub pending : HasCome kept new.pending

  module _ (stays : ServerStays) (none : (a : Endpoint) → MovesNone programs old.run does a)
      (held : new.server.held ≡ old.state.server.held) (added : List SocketEvent) where
    abbrev now : Snapshot programs
    now = server_did old does added

    stood : (g : Bool) (port : ℕ) (transfer : TransferState F D) (a : Endpoint) → StandsAt now g port transfer a →
        StandsAt old g port transfer a
    stood g port transfer a h = search rules

    held_before : (port : ℕ) (transfer : TransferState F D) (a : Endpoint) → HasTransferBy now port transfer a →
        HasTransferBy old port transfer a
    held_before port transfer a h3 = search rules

    held_after : (port : ℕ) (transfer : TransferState F D) (a : Endpoint) → HasTransferBy old port transfer a →
        HasTransferBy now port transfer a
    held_after port transfer a h3 = search rules

    still_there : (a : Endpoint) → IsOfTransfer old a ⊎ ⊥ → IsOfTransfer now a
    still_there a (inl h) = search (std_rules, held_after)
    still_there a (inr none) = absurd none

    pub says_keeps : (said_now : List Message) → IsShown (joined programs) kept.views (kept.messages ++ said_now) →
        AreSent programs (kept.messages ++ said_now) added → IsKept pad now
    says_keeps said_now shown sends =
        server_keeps kept does added (rests {Here = λ (a : Endpoint). ⊥} said_now shown) sends stays.pending
        (λ k client found here. here)
        (λ g h p q t u a x y. kept.server.apart g h p q t u a (stood g p t a x) (stood h q u a y))
        (λ port transfer a is. Contains-append_right (placed_by programs old.run does) (places programs old.run) a
        (kept.server.opened port transfer a (held_before port transfer a is)))
        (λ port transfer a is. let h = kept.transfers port transfer a (held_before port transfer a is) in
        same_transfer h (viewed_still said_now h.viewed)
        (stored_after pad old does added h.end (none h.end.address) transfer.files h.has)) still_there

    -- it sends nothing
    pub still_keeps : IsSilent added → IsKept pad now
    still_keeps silent =
        says_keeps [] (rw (append-nil kept.messages) kept.shown) (λ port to bytes c. absurd (silent port to bytes c))
