-- A step of a client keeps the invariant, if it does of the client's own end.
use Rattle.std.proofs.lemmas.Grind.{common_steps}
use Rattle.std.proofs.Common.{arith}
use Rattle.tftp_promises.proofs.Common.{List, ℕ, ◌≡◌, sym, Endpoint, [], ◌∙◌, ap, SourceMeaning, Some, subst, inl}
use Rattle.tftp_promises.proofs.Common.{StoreMeaning, inr, SinkMeaning, ◌++◌, Programs, ◌⊎◌, Contains, Files}
use Rattle.tftp_promises.proofs.Common.{SocketEvent, Option, ◌≢◌, slice_get, TransferState, Sent, joined, ClientOf}
use Rattle.tftp_promises.proofs.Common.{OpenEnd, client_at, endpoint, Snapshot, same_Some, Turn, State, IsStranger}
use Rattle.tftp_promises.proofs.Common.{Moved, open_view, Message, EndView, Contains-push, after_turn, cases_eq, Reply}
use Rattle.tftp_promises.proofs.Common.{message, WasSentBefore, Has_asked, said, Contains-append_cases, IsAmong, set}
use Rattle.tftp_promises.proofs.Common.{end_after, ClientStage, Holding, IsUnblamed, slice_get-set_same, client_did}
use Rattle.tftp_promises.proofs.Common.{Goes, slice_get-set_other, unblamed_still, noted_by, slice_get-set_cases}
use Rattle.tftp_rules.specs.EndShown.{Replies, Newest}
use Rattle.tftp_promises.proofs.Invariant.{IsThere, HasTransferBy, ClientKept, StageKept, TransferKept, IsOfClient}
use Rattle.tftp_promises.proofs.Invariant.{IsOfTransfer, IsKept, IsFreshBy, SendsText, same_transfer, HasFile}
use Rattle.tftp_promises.proofs.KeptViews.{TurnsHere, arrived_still, quiet, sent_still, stage_still, there_still}
use Rattle.tftp_promises.proofs.KeptViews.{turned, viewed_still}
use Rattle.tftp_promises.proofs.NewPlaces.{client_apart}
use Rattle.tftp_promises.proofs.Orders.{SendsOnly, IsSilent}

module _ {S F D G K : Type 0} {stores : StoreMeaning S D} {sources : SourceMeaning F} {inputs : SourceMeaning G}
    {outputs : SinkMeaning K} {programs : Programs stores sources inputs outputs} where
  -- a transfer is at no client's endpoint
  pub transfer_apart : {pad : ℕ} {old : Snapshot programs} (kept : IsKept pad old) →
      IsFreshBy old → (k : ℕ) (client : ClientOf programs) → slice_get programs.clients k ≡ Some client →
      (a : Endpoint) → IsOfTransfer old a → client_at client ≢ a
  transfer_apart {old = old} kept fresh k client found a h same =
      client_apart programs old fresh a (kept.server.opened h.port h.transfer a h.is_transfer) k client found same

  module _ {pad : ℕ} {old : Snapshot programs} (kept : IsKept pad old)
      (fresh : IsFreshBy old) (k : ℕ) (client : ClientOf programs) (found : slice_get programs.clients k ≡ Some client)
      (was : ClientStage G K) (is_stage : slice_get old.clients k ≡ Some was) (s : State) (files : Files G K)
      (noted : List SocketEvent) (moved : Moved) (turns : TurnsHere kept (λ (a : Endpoint). client_at client ≡ a))
      (own : ClientKept programs pad turns.next (kept.messages ++ turns.said_now) client s files moved)
      (notes : (port : ℕ) (to : Endpoint) (bytes : List ℕ) → Contains noted (Sent port to bytes) →
      WasSentBefore old (endpoint client.ip port) to bytes
      ⊎ IsThere (kept.messages ++ turns.said_now) (endpoint client.ip port) to bytes) where
    -- two clients at one index are one
    one_client : (j k : ℕ) (c client : ClientOf programs) → slice_get programs.clients j ≡ Some c →
        slice_get programs.clients k ≡ Some client → j ≡ k → c ≡ client
    one_client j k c client at found same = same_Some c client (sym at ∙ (ap (slice_get programs.clients) same ∙ found))

    abbrev next : ClientStage G K
    next = Has_asked s files noted moved

    abbrev new : Snapshot programs
    new = client_did old k next

    abbrev all_messages : List Message
    all_messages = kept.messages ++ turns.said_now

    -- what was sent before
    abbrev Arrives : Endpoint → Endpoint → List ℕ → Type 0
    Arrives from to bytes = IsThere all_messages from to bytes ⊎ IsStranger programs to

    before : (from to : Endpoint) (bytes : List ℕ) → WasSentBefore old from to bytes → Arrives from to bytes
    before from to bytes h = sent_still programs kept.messages turns.said_now (kept.sent from to bytes h)

    -- what the client has sent
    by_client : (c : ClientOf programs) (stage : ClientStage G K) (port : ℕ) (from to : Endpoint) (bytes : List ℕ) → c ≡ client →
        stage ≡ next → from ≡ endpoint c.ip port → Contains (noted_by stage) (Sent port to bytes) →
        Arrives from to bytes
    by_client c stage port from to bytes same is at sent =
        let here : from ≡ endpoint client.ip port = at ∙ ap (λ (z : ClientOf programs). endpoint z.ip port) same in
        subst (λ (a : Endpoint). Arrives a to bytes) (sym here)
        (elim (notes port to bytes (subst (λ (z : ClientStage G K). Contains (noted_by z) (Sent port to bytes)) is
        sent)) [
          | inl h ↦ before (endpoint client.ip port) to bytes h
          | inr h ↦ inl h
        ])

    all_sent : (from to : Endpoint) (bytes : List ℕ) → WasSentBefore new from to bytes → Arrives from to bytes
    all_sent from to bytes (inl h) = before from to bytes (inl (record { port = h.port; at = h.at; sent = h.sent }))
    all_sent from to bytes (inr h) = elim (slice_get-set_cases old.clients k h.k next h.stage h.is_stage) [
      | inl e ↦
          by_client _ _ _ _ _ _ (one_client _ k _ _ h.is_client found e.0) e.1 h.at h.sent
      | inr e ↦
          before _ _ _ (inr (search))
    ]

    all_clients : (j : ℕ) (c : ClientOf programs) (stage : ClientStage G K) → slice_get programs.clients j ≡ Some c →
        slice_get (set old.clients k next) j ≡ Some stage → StageKept programs pad turns.next all_messages c stage
    all_clients j c stage at e = elim (slice_get-set_cases old.clients k j next stage e) [
      | inl h ↦ subst (λ z. StageKept programs pad turns.next all_messages c z) (sym h.1) (subst (λ z. ClientKept programs
          pad turns.next all_messages z s files moved) (sym (one_client j k c client at found h.0)) own)
      | inr h ↦
          stage_still turns.said_now c stage (λ z here v.
          turns.others z (λ same. h.0 (fresh.ends.clients j k c client at found (sym (same ∙ here)))) v)
          (kept.clients j c stage at h.1)
    ]

    all_transfers : (port : ℕ) (transfer : TransferState F D) (a : Endpoint) →
        HasTransferBy new port transfer a → TransferKept pad turns.next all_messages new port transfer a
    all_transfers port transfer a is =
        let h = kept.transfers port transfer a is in
        same_transfer h
        (turns.others h.end (λ same. transfer_apart kept fresh k client found a
        (record { port = port; transfer = transfer; is_transfer = is }) (same ∙ h.address)) h.viewed) h.has

    -- it is there now, and a client that had asked is there still
    here_now : (a : Endpoint) → client_at client ≡ a → IsOfClient programs new.clients a
    here_now a here = search (slice_get-set_same old.clients k next was is_stage, sym here)

    asked_still : (a : Endpoint) → IsOfClient programs old.clients a → IsOfClient programs new.clients a
    asked_still a h = elim (cases_eq h.k k) [
      | inl same ↦ here_now a (sym (h.address ∙ ap (λ z. client_at z) (one_client _ k _ _ h.found found same)))
      | inr n ↦ search (slice_get-set_other old.clients k h.k next n ∙ h.is_stage)
    ]

    all_views : (view : EndView) → IsAmong turns.next view →
        IsOfClient programs new.clients view.address ⊎ IsOfTransfer new view.address
    all_views view among = elim (turns.only view among) [
      | inl o ↦ elim (kept.only view o) [
        | inl h ↦ inl (asked_still view.address h)
        | inr h ↦ inr (record { port = h.port; transfer = h.transfer; is_transfer = h.is_transfer })
      ]
      | inr here ↦ inl (here_now view.address here)
    ]

    pub client_keeps : IsKept pad new
    client_keeps = record {
      views = turns.next;
      messages = all_messages;
      shown = turns.shown;
      sent = all_sent;
      server = record {
        pending = λ from bytes e. arrived_still kept.messages turns.said_now (kept.server.pending from bytes e);
        apart = kept.server.apart;
        once = kept.server.once;
        opened = kept.server.opened;
      };
      clients = all_clients;
      transfers = all_transfers;
      only = all_views;
    }

-- A turn of a client's end keeps the invariant, and so does a step that leaves the end as it was.

-- an answer is there
pub reply_there : (messages said_now : List Message) (from : Endpoint) (reply : Option Reply) (to : Endpoint)
    (bytes : List ℕ) → Replies from reply said_now →
    reply ≡ Some (record { to = to; bytes = bytes }) → IsThere (messages ++ said_now) from to bytes
reply_there messages said_now from reply to bytes r e =
    let h : Replies from (Some (record { to = to; bytes = bytes })) said_now =
    rw (e) at r in (
      h.0,
      h.1,
      rw (sym h.2) at (Contains-push messages (message from to (said h.0))),
    )

-- the last datagram of an end that has turned is there
pub newest_there : (messages said_now : List Message) (x y : OpenEnd) (turn : Turn) →
    Replies x.address turn.reply said_now → Newest x turn y →
    IsThere messages x.address x.state.position.last_sent_to x.state.position.last_sent →
    IsThere (messages ++ said_now) x.address y.state.position.last_sent_to y.state.position.last_sent
newest_there messages said_now x y turn r (inl e) old = grind (arith, common_steps)
newest_there messages said_now x y turn r (inr e) old = reply_there messages _ _ _ _ _ r e

module _ {S F D G K : Type 0} {stores : StoreMeaning S D} {sources : SourceMeaning F} {inputs : SourceMeaning G}
    {outputs : SinkMeaning K} {programs : Programs stores sources inputs outputs} {pad : ℕ} {old : Snapshot programs}
    (kept : IsKept pad old) (fresh : IsFreshBy old) {a : Endpoint} (c : IsOfClient programs old.clients a) where
  open c use {k, client, found, s, files, noted, moved, is_stage}

  -- the end before the step
  pub own : ClientKept programs pad kept.views kept.messages client s files moved
  own = kept.clients k client (Has_asked s files noted moved) found is_stage

  abbrev here : Endpoint
  here = client_at client

  -- what was noted before
  noted_before : (port : ℕ) (to : Endpoint) (bytes : List ℕ) → Contains noted (Sent port to bytes) →
      WasSentBefore old (endpoint client.ip port) to bytes
  noted_before port to bytes sent = inr (search (Has_asked s files noted moved))

  -- a turn
  module _ (turn : Turn) (held : Files (List ℕ) Holding)
      (goes : Goes (joined programs) kept.shown.0 kept.views kept.messages own.viewed.index own.end turn
      (end_after own.end turn held))
      (s' : State) (state : s'.end ≡ after_turn s.end turn) (files' : Files G K) (moved' : Moved)
      (unblamed : IsUnblamed (joined programs) (SendsText programs pad) kept.messages (after_turn own.end.state turn))
      (has : HasFile programs pad client (end_after own.end turn held) files' moved')
      (added : List SocketEvent) (sends : SendsOnly client.port turn.reply added) where
    abbrev y : OpenEnd
    y = end_after own.end turn held

    abbrev messages : List Message
    messages = kept.messages ++ goes.said_now

    address : y.address ≡ here
    address = own.address

    its_notes : (port : ℕ) (to : Endpoint) (bytes : List ℕ) → Contains (added ++ noted) (Sent port to bytes) →
        WasSentBefore old (endpoint client.ip port) to bytes ⊎ IsThere messages (endpoint client.ip port) to bytes
    its_notes port to bytes c = elim (Contains-append_cases added noted (Sent port to bytes) c) [
      | inl now ↦
          let h = sends port to bytes now in
          let there = reply_there kept.messages goes.said_now own.end.address turn.reply to bytes goes.replies h.1 in
          inr (rw (← h.0) (subst (λ (a : Endpoint). IsThere messages a to bytes) own.address there))
      | inr before ↦ inl (noted_before port to bytes before)
    ]

    pub turn_keeps : IsKept pad (client_did old k (Has_asked s' files' (added ++ noted) moved'))
    turn_keeps =
        client_keeps kept fresh k client found (Has_asked s files noted moved) is_stage s' files' (added ++ noted)
        moved'
        (turned _ _ _ y own.viewed.viewed own.address address _ (kept.shown.0 ++ goes.shown.0, goes.shown.2)) (record {
          end = y;
          address = address;
          state = ap (λ e. after_turn e turn) own.state ∙ sym state;
          side = own.side;
          viewed =
              search (
                slice_get-set_same kept.views own.viewed.index (open_view y) (open_view own.end) own.viewed.viewed,
                newest_there kept.messages goes.said_now own.end y turn goes.replies goes.last_sent own.viewed.last_sent,
                unblamed_still (joined programs) kept.messages goes.said_now y.state unblamed,
              );
          asks = there_still _ goes.said_now own.asks;
          has = has;
        }) its_notes

  -- the end as it was
  module _ (s' : State) (state : s'.end ≡ s.end) (files' : Files G K) (moved' : Moved)
      (has : HasFile programs pad client own.end files' moved') (added : List SocketEvent) (silent : IsSilent added) where
    pub stays_keeps : IsKept pad (client_did old k (Has_asked s' files' (added ++ noted) moved'))
    stays_keeps =
        client_keeps kept fresh k client found (Has_asked s files noted moved) is_stage s' files' (added ++ noted) moved'
        (quiet kept.shown) (record {
          end = own.end;
          address = own.address;
          state = own.state ∙ sym state;
          side = own.side;
          viewed = viewed_still [] own.viewed;
          asks = there_still kept.messages [] own.asks;
          has = has;
        }) (λ port to bytes c. elim (Contains-append_cases added noted (Sent port to bytes) c) [
          | inl now ↦ absurd (silent port to bytes now)
          | inr before ↦ inl (noted_before port to bytes before)
        ])
