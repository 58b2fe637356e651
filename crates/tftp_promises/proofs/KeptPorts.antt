-- A step of the server at the port of a transfer keeps the invariant, if it does of the transfer's own end.
use Rattle.std.proofs.Common.{rules as std_rules}
use Rattle.tftp_promises.proofs.Common.{rules, List, ℕ, ◌≡◌, sym, Endpoint, refl, ◌∙◌, ap, SourceMeaning, Some, subst}
use Rattle.tftp_promises.proofs.Common.{inl, StoreMeaning, inr, SinkMeaning, false, ◌++◌, Programs, ◌⊎◌, Contains}
use Rattle.tftp_promises.proofs.Common.{SocketEvent, ◌≢◌, LoopState, slice_get, TransferState, LoopStep, joined}
use Rattle.tftp_promises.proofs.Common.{OpenEnd, endpoint, Snapshot, at, Turn, IsStranger, open_view, Message, cases_eq}
use Rattle.tftp_promises.proofs.Common.{Reply, is_client, server_did, place_at, with_next, IsUnblamed}
use Rattle.tftp_promises.proofs.Common.{slice_get-set_same, numbers, Goes, unblamed_still, lookup-set_same}
use Rattle.tftp_promises.proofs.Common.{lookup-set_other, Bool, true, true≢false, [], Contains-append_right}
use Rattle.tftp_promises.proofs.Common.{Transfer_closed, ClientOf, client_at, None, Option, without}
use Rattle.tftp_promises.proofs.Common.{lookup-remove_other, IsSome}
use Rattle.tftp_promises.proofs.Places.{placed_by, places}
use Rattle.tftp_promises.proofs.Identifiers.{at-with_next_cases, at-without_cases}
use Rattle.tftp_promises.proofs.Invariant.{IsThere, HasStored, TransferKept, StandsAt, IsKept, IsFreshBy, IsStrangers}
use Rattle.tftp_promises.proofs.Invariant.{SendsText, named_still, same_transfer}
use Rattle.tftp_promises.proofs.KeptServer.{AreSent, ServerStays, seat_keeps, stored_after}
use Rattle.tftp_promises.proofs.KeptViews.{TurnsHere, quiet, there_still, turned, viewed_still}
use Rattle.tftp_promises.proofs.OneTimerEach.{keyed_once}
use Rattle.tftp_ends.specs.declared.record.Record.{Record}
use Rattle.tftp_loop.specs.Steps.{Closes}
use Rattle.tftp_server.specs.State.{taken_of}
use Rattle.tftp_promises.proofs.MovedSteps.{MovesNone}
use Rattle.tftp_promises.proofs.NewPlaces.{client_apart}
use Rattle.tftp_promises.proofs.Orders.{IsSilent, SendsOnly}
use Rattle.tftp_promises.proofs.KeptClients.{reply_there, newest_there}

module _ {S F D G K : Type 0} {stores : StoreMeaning S D} {sources : SourceMeaning F} {inputs : SourceMeaning G}
    {outputs : SinkMeaning K} {programs : Programs stores sources inputs outputs} {pad : ℕ} {old : Snapshot programs}
    (kept : IsKept pad old) (fresh : IsFreshBy old) (port : ℕ) (transfer : TransferState F D)
    (found : at port old.state.server.held ≡ Some transfer) where
  -- its place, and the end before
  abbrev place : Endpoint
  place = place_at programs port old.run

  abbrev was : TransferKept pad kept.views kept.messages old port transfer place
  was = kept.transfers port transfer place (inl (found, refl))

  known : Contains (places programs old.run) place
  known = kept.server.opened port transfer place (inl (found, refl))

  no_client : (k : ℕ) (client : ClientOf programs) → slice_get programs.clients k ≡ Some client →
      client_at client ≢ place
  no_client k client there same = client_apart programs old fresh place known k client there same

  -- another transfer is at another place
  away : (g : Bool) (q : ℕ) (u : TransferState F D) (a : Endpoint) → StandsAt old g q u a →
      (g ≡ true → q ≢ port) → place ≢ a
  away g q u a h n same = let e = kept.server.apart g true q port u transfer a h (found, sym same) in n e.0 e.1

  -- a removed one is
  gone : (q : ℕ) (u : TransferState F D) (a : Endpoint) → StandsAt old false q u a → place ≢ a
  gone q u a h = away false q u a h (λ c. absurd (true≢false (sym c)))

  module _ {new : LoopState S F D} (does : LoopStep stores sources old.state new) (stays : ServerStays kept does)
      (added : List SocketEvent) (next : TransferState F D)
      (held : new.server.held ≡ with_next port next old.state.server.held) where
    abbrev now : Snapshot programs
    now = server_did old does added

    found_now : at port new.server.held ≡ Some next
    found_now = ap (at port) held ∙ lookup-set_same numbers port transfer next old.state.server.held found

    from : (g : Bool) (q : ℕ) (u : TransferState F D) (a : Endpoint) → StandsAt now g q u a →
        ((g ≡ true) × (q ≡ port) × (u ≡ next) × (a ≡ place)) ⊎ ((place ≢ a) × StandsAt old g q u a)
    from true q u a h =
        let there : a ≡ place_at programs q old.run = h.1 ∙ stays.seats q in
        elim (at-with_next_cases port q transfer next u old.state.server.held found (ap (at q) (sym held) ∙ h.0)) [
          | inl e ↦ inl (refl, e.0, e.1, there ∙ ap (λ (p : ℕ). place_at programs p old.run) e.0)
          | inr e ↦ inr (away true q u a (e.1, there) (λ _. e.0), (e.1, there))
        ]
    from false q u a (inl h) = absurd (stays.removes q u h.0)
    from false q u a (inr h) = inr (gone q u a h, h)

    onto : (g : Bool) (q : ℕ) (u : TransferState F D) (a : Endpoint) → StandsAt old g q u a →
        (place ≡ a) ⊎ StandsAt now g q u a
    onto true q u a h = elim (cases_eq q port) [
      | inl same ↦ inl (sym (h.1 ∙ ap (λ (p : ℕ). place_at programs p old.run) same))
      | inr n ↦ inr (
        ap (at q) held ∙ (lookup-set_other numbers port q transfer next old.state.server.held found n ∙ h.0),
        h.1 ∙ sym (stays.seats q),
      )
    ]
    onto false q u a h = inr (inr h)

    -- the invariant, if its end turned so
    module _ (none : (a : Endpoint) → place ≢ a → MovesNone programs old.run does a) where
      pub port_keeps : (turns : TurnsHere kept (λ (a : Endpoint). place ≡ a)) →
          AreSent programs (kept.messages ++ turns.said_now) added →
          TransferKept pad turns.next (kept.messages ++ turns.said_now) now port next place → IsKept pad now
      port_keeps turns sends own =
          seat_keeps kept does added true port next place (found_now, sym (stays.seats port)) from onto
          (Contains-append_right (placed_by programs old.run does) (places programs old.run) place known)
          no_client none turns sends stays.pending own

      -- the end is as it was
      pub as_it_was : next.end ≡ transfer.end → next.path ≡ transfer.path → next.request ≡ transfer.request →
          HasStored pad now was.end next.files → IsSilent added → IsKept pad now
      as_it_was end path request has silent =
          port_keeps (quiet kept.shown) (λ own to bytes c. absurd (silent own to bytes c)) (record {
            end = was.end;
            address = was.address;
            seat = was.seat;
            state = was.state ∙ sym end;
            path = was.path ∙ sym path;
            request = was.request ∙ sym request;
            named = named_still path request was.named;
            side = was.side;
            viewed = viewed_still [] was.viewed;
            has = has;
          })

    -- the turn of a stranger's transfer: it is one still, and what it answers is for a stranger, or is there from its
    -- port
    pub record Aside (turn : Turn) (y : OpenEnd) : Type 0 where
      pub strangers : IsStrangers programs y.state
      pub replies : (reply : Reply) → turn.reply ≡ Some reply →
          IsStranger programs reply.to ⊎ IsThere kept.messages (endpoint programs.ip port) reply.to reply.bytes

    -- it stands at its port, or aside
    abbrev pub IsSeated : Turn → OpenEnd → Type 0
    IsSeated turn y = (place ≡ endpoint programs.ip port) ⊎ Aside turn y

    -- the end after a turn
    pub record Becomes (turn : Turn) : Type 0 where
      pub end : OpenEnd
      pub goes : Goes (joined programs) kept.shown.0 kept.views kept.messages was.viewed.index was.end turn end
      pub address : end.address ≡ was.end.address
      pub state : end.state ≡ next.end
      pub path : end.path ≡ was.end.path
      pub request : end.request ≡ was.end.request
      pub unblamed : IsUnblamed (joined programs) (SendsText programs pad) kept.messages end.state
      pub has : HasStored pad now end next.files
      pub seated : IsSeated turn end

    module _ (path : next.path ≡ transfer.path) (request : next.request ≡ transfer.request) (turn : Turn)
        (becomes : Becomes turn) (sends : SendsOnly port turn.reply added)
        (none : (a : Endpoint) → place ≢ a → MovesNone programs old.run does a) where
      open becomes use {end, goes}

      abbrev messages : List Message
      messages = kept.messages ++ goes.said_now

      abbrev SentBy : ℕ → Endpoint → List ℕ → Type 0
      SentBy own to bytes = IsThere messages (endpoint programs.ip own) to bytes ⊎ IsStranger programs to

      sent_by : (to : Endpoint) (bytes : List ℕ) → turn.reply ≡ Some (record { to = to; bytes = bytes }) →
          IsSeated turn end → SentBy port to bytes
      sent_by to bytes says (inl here) =
          let there = reply_there kept.messages goes.said_now was.end.address turn.reply to bytes goes.replies says in
          inl (subst (λ (a : Endpoint). IsThere messages a to bytes) (was.address ∙ here) there)
      sent_by to bytes says (inr aside) = elim (aside.replies (record { to = to; bytes = bytes }) says) [
        | inl strange ↦ inr strange
        | inr there ↦ inl (there_still kept.messages goes.said_now there)
      ]

      seat_now : IsSeated turn end → (place ≡ endpoint programs.ip port) ⊎ IsStrangers programs end.state
      seat_now h = search rules

      pub turn_keeps : IsKept pad now
      turn_keeps =
          port_keeps none (turned place was.viewed.index (open_view was.end) end was.viewed.viewed was.address
          (becomes.address ∙ was.address) goes.said_now (kept.shown.0 ++ goes.shown.0, goes.shown.2)) (λ own to bytes c.
          let h = sends own to bytes c in
          subst (λ (p : ℕ). SentBy p to bytes) h.0 (sent_by to bytes h.1 becomes.seated)) (search (
            becomes.address ∙
                was.address,
            seat_now becomes.seated,
            becomes.path ∙ (was.path ∙ sym path),
            becomes.request ∙
                (was.request ∙ sym request),
            named_still path request was.named,
            ap is_client goes.side ∙ was.side,
            slice_get-set_same kept.views was.viewed.index (open_view end) (open_view was.end)
                was.viewed.viewed,
            subst (λ (a : Endpoint). IsThere messages a
                end.state.position.last_sent_to end.state.position.last_sent) (sym becomes.address)
                (newest_there kept.messages goes.said_now was.end end turn goes.replies
                goes.last_sent was.viewed.last_sent),
            unblamed_still (joined programs)
                kept.messages goes.said_now end.state becomes.unblamed,
          ))

-- A transfer that the server removes keeps the invariant: its end stays among the views.

-- what is taken is there
was_there : {F D : Type 0} (o : Option (TransferState F D)) (taken : Record × Option D) → taken_of o ≡ Some taken →
    (transfer : TransferState F D) × (o ≡ Some transfer)
was_there None taken e = absurd (let f : None ≡ Some taken = e in cc)
was_there (Some transfer) taken e = (transfer, refl)

module _ {S F D G K : Type 0} {stores : StoreMeaning S D} {sources : SourceMeaning F} {inputs : SourceMeaning G}
    {outputs : SinkMeaning K} {programs : Programs stores sources inputs outputs} {pad : ℕ} {old : Snapshot programs}
    (kept : IsKept pad old) (fresh : IsFreshBy old) {new : LoopState S F D} (closes : Closes stores sources old.state new)
    (added : List SocketEvent) (silent : IsSilent added) where
  abbrev does : LoopStep stores sources old.state new
  does = Transfer_closed closes

  abbrev now_closed : Snapshot programs
  now_closed = server_did old does added

  abbrev its_port : ℕ
  its_port = closes.timer.port

  left : new.server.held ≡ without its_port old.state.server.held
  left = ap (λ (s : LoopState S F D). s.server.held) closes.is

  -- nothing moves
  quiet_at : (a : Endpoint) → MovesNone programs old.run does a
  quiet_at a = record { opens = refl; moves = λ moved. refl }

  abbrev taken : (transfer : TransferState F D) × (at its_port old.state.server.held ≡ Some transfer)
  taken = was_there (at its_port old.state.server.held) closes.taken closes.is_taken

  abbrev its_place : Endpoint
  its_place = place kept fresh its_port taken.0 taken.1

  from_closed : (g : Bool) (q : ℕ) (u : TransferState F D) (a : Endpoint) → StandsAt now_closed g q u a →
      ((g ≡ false) × (q ≡ its_port) × (u ≡ taken.0) × (a ≡ its_place)) ⊎ ((its_place ≢ a) × StandsAt old g q u a)
  from_closed true q u a h =
      let once = keyed_once stores sources old.run programs.server.empty in
      let there : IsSome (at its_port old.state.server.held) = rw taken.1 refl in
      let e = at-without_cases its_port q u old.state.server.held once there (ap (at q) (sym left) ∙ h.0) in
      inr (away kept fresh its_port taken.0 taken.1 true q u a (e.1, h.1) (λ _. e.0), (e.1, h.1))
  from_closed false q u a (inl h) = search std_rules
  from_closed false q u a (inr h) = inr (gone kept fresh its_port taken.0 taken.1 q u a h, h)

  onto_closed : (g : Bool) (q : ℕ) (u : TransferState F D) (a : Endpoint) → StandsAt old g q u a →
      (its_place ≡ a) ⊎ StandsAt now_closed g q u a
  onto_closed true q u a h = elim (cases_eq q its_port) [
    | inl same ↦ inl (sym (h.1 ∙ ap (λ (p : ℕ). place_at programs p old.run) same))
    | inr n ↦ inr (ap (at q) left ∙ (lookup-remove_other numbers its_port q old.state.server.held n ∙ h.0), h.1)
  ]
  onto_closed false q u a h = inr (inr h)

  pub closing_keeps : IsKept pad now_closed
  closing_keeps =
      let h = was kept fresh its_port taken.0 taken.1 in
      seat_keeps kept does added false its_port taken.0 its_place (inl ((refl, taken.1), refl)) from_closed onto_closed
      (known kept fresh its_port taken.0 taken.1) (no_client kept fresh its_port taken.0 taken.1) (λ a n. quiet_at a)
      (quiet kept.shown) (λ q to bytes c. absurd (silent q to bytes c))
      (λ from bytes e. kept.server.pending from bytes (ap (λ (s : LoopState S F D). s.pending) (sym closes.is) ∙ e))
      (same_transfer h (viewed_still [] h.viewed)
      (stored_after pad old does added h.end (quiet_at h.end.address) taken.0.files h.has))
