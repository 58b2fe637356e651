-- How a client, and the transfer that serves it, close that have not given up. For Outlasting and Explaining.
use Rattle.std.proofs.Common.{rules as std_rules}
use Rattle.tftp_promises.proofs.Common.{List, ℕ, ◌≡◌, rules, sym, Endpoint, refl, ◌∙◌, ap, SourceMeaning, Some, inl}
use Rattle.tftp_promises.proofs.Common.{StoreMeaning, inr, SinkMeaning, false, true, ◌++◌, Programs, EndState, ◌⊎◌}
use Rattle.tftp_promises.proofs.Common.{Files, SocketEvent, true≢false, arith, slice_get, ClientOf, is_sender}
use Rattle.tftp_promises.proofs.Common.{client_at, Noted, not, is_client, append_cancel_right, Outcome, is_complete}
use Rattle.tftp_promises.proofs.Common.{AreJoined, events_of, Act, drafting_sink, Role, client_end, ClientOpens}
use Rattle.tftp_promises.proofs.Common.{common_steps, acts_in, acts_at, ServesClient, ProgramEnd, IsEnd, is_open}
use Rattle.tftp_promises.proofs.Common.{transfer_end, KeepAnyFiles, IsOurs, IsRefusal, WasHeld, OneAct}
use Rattle.tftp_promises.proofs.Common.{AreNotedWhileOpen, IsLiving, HasFailed, IsOver, AreBounded, HasOrder}
use Rattle.tftp_promises.proofs.Common.{MayCloseAs, []}
use Rattle.tftp_lives.specs.Outlasting.{GaveUp}
use Rattle.tftp_lives.specs.Unanswered.{IsOther}
use Rattle.tftp_lives.proofs.LivesStand.{life_stands}
use Rattle.tftp_lives.proofs.OpenEnds.{GoesOn, how_it_is}
use Rattle.tftp_ends.specs.Run.{IsOpen}
use Rattle.tftp_lives.proofs.Outlasts.{ends_outlast_loss}
use Rattle.tftp_promises.specs.AnyFiles.{peer_of}
use Rattle.tftp_promises.specs.Failed.{IsFailure}
use Rattle.tftp_promises.specs.Outlasting.{OutlastLoss, ProgramsOutlastLoss}
use Rattle.tftp_promises.proofs.ClientTraces.{client_lives, client_opening, client_tells, run_role}
use Rattle.tftp_promises.proofs.EachAlone.{programs_keep_any}
use Rattle.tftp_promises.proofs.UnblamedPrograms.{programs_unblamed}
use Rattle.tftp_promises.proofs.SeenLives.{in_order}
use Rattle.tftp_promises.proofs.GivingUp.{held_noted, was_held}
use Rattle.tftp_promises.proofs.TransferLives.{transfers_live}

-- a client is one
opens_client : {G K : Type 0} {inputs : SourceMeaning G} {outputs : SinkMeaning K} {to : Endpoint} {first : EndState}
    {file : Files G K} → ClientOpens inputs outputs to first file → is_client first.role.side ≡ true
opens_client h0 = search rules

-- ---- outcomes
-- of an end that is not complete, for which retries are no cause
pub either_other : (outcome : Outcome) → IsOther outcome → IsFailure outcome ⊎ IsRefusal outcome
either_other outcome other = search rules

-- where its peer is not to blame
failing : {S F D G K : Type 0} {stores : StoreMeaning S D} {sources : SourceMeaning F} {inputs : SourceMeaning G}
    {outputs : SinkMeaning K} (programs : Programs stores sources inputs outputs) (x : ProgramEnd) (p : Endpoint)
    (outcome : Outcome) → IsOther outcome → MayCloseAs programs x p outcome → IsFailure outcome
failing programs x p outcome other may = search rules

-- ---- an end that is over has failed, if it is incomplete
abbrev FailsOver : EndState → Type 0
FailsOver e = IsOver e → is_complete e.position.phase ≡ false → HasFailed e

-- so it is complete, if it has not failed
done : (e : EndState) → FailsOver e → (HasFailed e → ⊥) → IsOver e → is_complete e.position.phase ≡ true
done e failed sound over = search std_rules

-- one that has closed is complete too, if its peer is over once this one gave up, and is not complete before it
complete_by : (x y : EndState) → FailsOver x → FailsOver y → (HasFailed x → ⊥) → (HasFailed y → ⊥) →
    IsOver x ⊎ (GoesOn x ⊎ GaveUp x) → (IsOpen x → ⊥) → (GaveUp x → IsOver y) →
    (is_complete y.position.phase ≡ true → is_complete x.position.phase ≡ true) → is_complete x.position.phase ≡ true
complete_by x y fails its_fails sound its_sound (inl over) closed outlasts complete = done x fails sound over
complete_by x y fails its_fails sound its_sound (inr (inl on)) closed outlasts complete = absurd (closed on.0)
complete_by x y fails its_fails sound its_sound (inr (inr gave)) closed outlasts complete =
    complete (done y its_fails its_sound (outlasts gave))

module _ {S F D G K : Type 0} {stores : StoreMeaning S D} {sources : SourceMeaning F} {inputs : SourceMeaning G}
    {outputs : SinkMeaning K} {programs : Programs stores sources inputs outputs} {order : List Noted}
    (joined : AreJoined programs order) where
  keep : KeepAnyFiles programs
  keep = programs_keep_any stores sources inputs outputs programs order joined

  -- one that is over, and whose peer is no stranger
  fails : (x : ProgramEnd) (p : Endpoint) → IsEnd programs x → peer_of x ≡ Some p → IsOurs programs p → FailsOver x.state
  fails x p is_end peer ours (inl complete) incomplete = absurd (true≢false (sym complete ∙ incomplete))
  fails x p is_end peer ours (inr closed) incomplete = (
    incomplete,
    closed.0,
    closed.1,
    failing programs x p closed.0 closed.2
        (programs_unblamed stores sources inputs outputs programs order joined x p closed.0 is_end peer ours closed.1),
  )

  -- a sender that is complete has a peer that is
  completes : (x y : ProgramEnd) → IsEnd programs x → IsEnd programs y → peer_of x ≡ Some y.address →
      IsOurs programs y.address → is_sender x.state.role.side ≡ true → is_complete x.state.position.phase ≡ true →
      is_complete y.state.position.phase ≡ true
  completes x y is_x is_y peer ours sends complete =
      let last = keep.safe.sender_last x is_x sends complete in
      let at_y : last.0 ≡ y.address = cc (last.1, peer) in
      let there = last.2 (rw at_y ours) in
      rw (← keep.unique there.0 y there.1.is_end is_y (there.1.address ∙ at_y)) there.1.complete

  module _ (k : ℕ) {client : ClientOf programs} (found : slice_get programs.clients k ≡ Some client) where
    abbrev own : ProgramEnd
    own = client_end programs client

    client_is_end : IsEnd programs own
    client_is_end = inl (k, client, found, refl)

    client_is_ours : IsOurs programs (client_at client)
    client_is_ours strange = strange.clients k client found refl

    is_client_side : is_client client.last.end.role.side ≡ true
    is_client_side = ap (λ (r : Role). is_client r.side) (run_role client.runs) ∙ opens_client client.opens

    -- how the client is
    pub client_is : IsOver client.last.end ⊎ (GoesOn client.last.end ⊎ GaveUp client.last.end)
    client_is =
        how_it_is (acts_in client.runs) client.last.end
        (life_stands inputs outputs (client_opening client.opens) (client_lives client.runs))

    module _ (p : Endpoint) (peer : peer_of own ≡ Some p) where
      peer_is_ours : IsOurs programs p
      peer_is_ours = keep.safe.ours own p client_is_end is_client_side peer

      pub client_fails : FailsOver client.last.end
      client_fails = fails own p client_is_end peer peer_is_ours

      module _ (serves : ServesClient programs p client) where
        abbrev its : ProgramEnd
        its = transfer_end programs serves.transfer p

        transfer_is_end : IsEnd programs its
        transfer_is_end = inr (serves.port, serves.transfer, p, serves.opened, refl)

        pub transfer_fails : FailsOver serves.transfer.end
        transfer_fails = fails its (client_at client) transfer_is_end serves.peer client_is_ours

        -- of a get
        pub client_complete : is_sender serves.transfer.end.role.side ≡ true →
            is_complete serves.transfer.end.position.phase ≡ true → is_complete client.last.end.position.phase ≡ true
        client_complete = completes its own transfer_is_end client_is_end serves.peer client_is_ours

        -- ---- a client and its transfer outlast bounded loss
        module _ (was : WasHeld programs serves.port serves.transfer) where
          abbrev its_acts : List Act
          its_acts = acts_at serves.port was.run

          -- the trace of the server, with what is the transfer's in it
          noted : AreNotedWhileOpen serves.port programs.server.start.events was.state.events
              (is_open (Some serves.transfer)) its_acts
          noted = held_noted programs serves.port serves.transfer was

          server_noted : events_of 0 order ≡ (was.since ++ noted.later) ++ (noted.own.noted ++ noted.earlier)
          server_noted =
              joined.is_order.server
              ∙ append_cancel_right programs.server.noted _ programs.server.start.events
              (sym programs.server.is_noted ∙ all_in programs.server.last.events was.state.events noted.until was.since
              noted.later noted.own.noted noted.earlier programs.server.start.events was.is_since noted.is noted.own.is)
            where
              all_in : (all state until since later own earlier before : List SocketEvent) → all ≡ since ++ state →
                  state ≡ later ++ until → until ≡ own ++ (earlier ++ before) →
                  all ≡ ((since ++ later) ++ (own ++ earlier)) ++ before
              all_in all state until since later own earlier before a b c = grind (arith, common_steps)

          living : IsLiving stores sources its_acts serves.transfer
          living = search (std_rules, transfers_live)

          shown : HasOrder k client.port serves.port order (acts_in client.runs) its_acts
              (IsOpen serves.transfer.end × (was.since ≡ []))
          shown =
              let all =
              in_order k client.port serves.port order (acts_in client.runs) its_acts (was.since ++ noted.later)
              noted.own.noted noted.earlier (rw (joined.is_order.clients k client found) (client_tells client))
              noted.own.tells server_noted in
              search std_rules

          both : (acts : List OneAct) (limit slack : ℕ) → AreBounded programs client p serves was acts limit slack →
              (GaveUp client.last.end → IsOver serves.transfer.end) × (GaveUp serves.transfer.end → IsOver client.last.end)
          both acts limit slack are =
              ends_outlast_loss inputs outputs sources (drafting_sink stores) (client_at client) p client.first
              client.last.end living.first serves.transfer.end acts limit slack (client_opening client.opens)
              (rw are.client_acts (client_lives client.runs)) living.begins (rw are.server_acts living.life)
              (record { x_peer = peer; y_peer = serves.peer; sides = serves.other }) are.bounded

          outlast : OutlastLoss programs order k client p serves was
          outlast = record {
            shown = shown;
            outlasts = both;
            get = λ acts limit slack are receives sound its_sound closed.
                complete_by client.last.end serves.transfer.end client_fails transfer_fails sound its_sound client_is closed
                (both acts limit slack are).0 (client_complete (serves.other ∙ ap not receives));
            put = λ acts limit slack are sends sound its_sound closed.
                complete_by serves.transfer.end client.last.end transfer_fails client_fails its_sound sound
                (how_it_is its_acts serves.transfer.end
                (life_stands sources (drafting_sink stores) living.begins living.life)) closed
                (both acts limit slack are).1
                (completes own its client_is_end transfer_is_end peer peer_is_ours sends);
          }

pub programs_outlast_loss : {S F D G K : Type 0} (stores : StoreMeaning S D) (sources : SourceMeaning F)
    (inputs : SourceMeaning G) (outputs : SinkMeaning K) → ProgramsOutlastLoss stores sources inputs outputs
programs_outlast_loss stores sources inputs outputs programs order joined k client p found peer serves =
    search (rules, was_held, outlast)
