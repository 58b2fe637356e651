-- A client that timed out was not answered by the transfer that serves it. For the law a_client_gives_up_unanswered.
use Rattle.std.proofs.Common.{rules as std_rules}
use Rattle.tftp_promises.proofs.Common.{List, ℕ, ◌≡◌, rules, sym, Endpoint, refl, ◌∙◌, ap, SourceMeaning, Some, inl}
use Rattle.tftp_promises.proofs.Common.{StoreMeaning, inr, SinkMeaning, false, None, ◌++◌, Programs, ◌⊎◌, SocketEvent}
use Rattle.tftp_promises.proofs.Common.{Option, true≢false, arith, LoopState, slice_get, TransferState, LoopStep}
use Rattle.tftp_promises.proofs.Common.{ClientOf, outcome_of, is_sender, client_at, at, Run, Then, Start, Noted}
use Rattle.tftp_promises.proofs.Common.{requests_at, ◌+◌, is_complete, AreJoined, drafting_sink, append_assoc}
use Rattle.tftp_promises.proofs.Common.{client_end, begun, HasClosed, HasOpened, acts_at, ServesClient, is_open}
use Rattle.tftp_promises.proofs.Common.{Transfer_closed, Removes, WasHeld, AreNotedWhileOpen, IsSeenUnanswered}
use Rattle.tftp_promises.proofs.Common.{record_of, joined, ClientProgram, [], ◌∷◌, Act, Said, newest, acts_in}
use Rattle.tftp_lives.proofs.OpenEnds.{flipped}
use Rattle.tftp_lives.proofs.Unanswered.{give_up_unanswered, give_up_unheard}
use Rattle.tftp_ends.specs.declared.outcome.Outcome.TheVariants as outcomes
use Rattle.tftp_promises.specs.AnyFiles.{peer_of}
use Rattle.tftp_promises.specs.GivesUp.{ClientsGiveUpUnanswered, ClientsTimeOutSo, GaveUpUnanswered, GaveUpUnheard}
use Rattle.tftp_promises.specs.GivesUp.{TransfersGiveUpUnanswered}
use Rattle.tftp_promises.proofs.ClientTraces.{asks_there, client_lives, client_opening, client_noted, client_tells}
use Rattle.tftp_promises.proofs.FirstRefused.{asked_in, limit_in, still_asks, waits_first}
use Rattle.tftp_promises.proofs.OthersTaken.{takes_none}
use Rattle.tftp_promises.proofs.ClientsServed.{served_by}
use Rattle.tftp_promises.proofs.JointRuns.{traces_joint}
use Rattle.tftp_promises.proofs.KeptFresh.{kept_at_last}
use Rattle.tftp_promises.proofs.KeptServes.{server_steps_keep}
use Rattle.tftp_promises.proofs.SeenLives.{tells_copies, tells_received, tells_sent, tells_since}
use Rattle.tftp_promises.proofs.StepEvents.{step_adds}
use Rattle.tftp_promises.proofs.TransferLives.{transfers_live}
use Rattle.tftp_promises.proofs.TransferTraces.{transfers_noted}

module _ {S F D G K : Type 0} {stores : StoreMeaning S D} {sources : SourceMeaning F} {inputs : SourceMeaning G}
    {outputs : SinkMeaning K} (programs : Programs stores sources inputs outputs) where
  -- a transfer that a step removes was held before it
  removed_at : {old new : LoopState S F D} (does : LoopStep stores sources old new) (port : ℕ)
      (transfer : TransferState F D) → Removes does port transfer → at port old.server.held ≡ Some transfer
  removed_at (Transfer_closed d) port transfer h = h.1
  removed_at does port transfer h = absurd h

  was_closed : {state : LoopState S F D} (run : Run (LoopStep stores sources) programs.server.start state)
      (since : List SocketEvent) → programs.server.last.events ≡ since ++ state.events → (port : ℕ)
      (transfer : TransferState F D) (a : Endpoint) → HasClosed programs run port transfer a →
      WasHeld programs port transfer
  was_closed Start since is port transfer a h = absurd h
  was_closed (Then {middle} run does) since is port transfer a h =
      let adds = step_adds does in
      let all = is ∙ (ap (λ es. since ++ es) adds.1 ∙ sym (append_assoc since adds.0 middle.events)) in
      elim h [
        | inl removed ↦
            search (removed_at does port transfer removed.0, since ++ adds.0)
        | inr before ↦ was_closed run (since ++ adds.0) all port transfer a before
      ]

  -- each transfer was held at some time
  pub was_held : (port : ℕ) (transfer : TransferState F D) (a : Endpoint) → HasOpened programs port transfer a →
      WasHeld programs port transfer
  was_held port transfer a (inl h) =
      record { state = programs.server.last; run = programs.server.run; held = h.0; since = []; is_since = refl }
  was_held port transfer a (inr h) = was_closed programs.server.run [] refl port transfer a h

  -- the trace tells of it until then
  pub held_noted : (port : ℕ) (transfer : TransferState F D) (was : WasHeld programs port transfer) →
      AreNotedWhileOpen port programs.server.start.events was.state.events (is_open (Some transfer)) (acts_at port was.run)
  held_noted port transfer was =
      rw (was.held) at (transfers_noted stores sources programs.server.start programs.server.empty
      programs.server.max_block port was.run)

  module _ (client : ClientOf programs) (p : Endpoint) (peer : peer_of (client_end programs client) ≡ Some p)
      (out : outcome_of client.last.end.position.phase ≡ Some outcomes.TimedOut)
      (incomplete : is_complete client.last.end.position.phase ≡ false) (serves : ServesClient programs p client) where
    gave_up : GaveUpUnanswered programs client p
    gave_up =
        let was = was_held serves.port serves.transfer p serves.opened in
        let living = transfers_live stores sources was.run programs.server.empty programs.server.max_block serves.port
        serves.transfer was.held in
        search (
          give_up_unanswered inputs outputs sources (drafting_sink stores) (client_at client) p client.first
              client.last.end _ living.first serves.transfer.end _ (client_opening client.opens) (client_lives
              client.runs) living.begins living.life (record {
                x_peer = peer;
                y_peer = serves.peer;
                sides =
                    serves.other;
              }) out incomplete,
          client_noted client.before client.runs,
          held_noted serves.port
              serves.transfer was,
        )

  -- ---- what of it the traces show
  module _ (client : ClientOf programs) (p : Endpoint) (g : GaveUpUnanswered programs client p) where
    seen : IsSeenUnanswered programs client p
    seen =
        let tells = client_tells client in
        let tried = g.unanswered.tried in
        let to_peer = ap (λ (a : Endpoint). Said a client.last.end.position.last_sent) g.unanswered.to_peer in
        let since =
        tells_since _ _ _ tells _ p _ _ (tried.is ∙ ap (λ (a : Act). tried.later ++ a ∷ tried.earlier) to_peer) in
        let many = tried.timeouts in
        let some = since.timeouts in
        record {
          gave_up = g;
          copies = tells_copies _ _ _ tells _ p _ (rw (← to_peer) tried.copies);
          later = since.later;
          earlier = since.earlier;
          is = since.is;
          timeouts = omega (arith, many, some);
          unreceived = λ packet bytes awaits spelled there.
              elim (tells_received _ _ _ tells p _ there) [
                | inl took ↦ absurd (g.unanswered.unheard packet bytes awaits spelled took)
                | inr lost ↦ lost
              ];
          answered = λ packet bytes said spelled h. elim (g.unanswered.answered packet bytes said spelled h) [
            | inl over ↦ inl over
            | inr a ↦
                inr (
                  a.answer,
                  a.awaited,
                  a.readable,
                  tells_sent _ _ _ g.server_noted.own.tells _ _ a.there,
                )
          ];
        }

clients_give_up : {S F D G K : Type 0} (stores : StoreMeaning S D) (sources : SourceMeaning F)
    (inputs : SourceMeaning G) (outputs : SinkMeaning K) (programs : Programs stores sources inputs outputs)
    (order : List Noted) → AreJoined programs order → (k : ℕ) (client : ClientOf programs) (p : Endpoint) →
    slice_get programs.clients k ≡ Some client → peer_of (client_end programs client) ≡ Some p →
    outcome_of client.last.end.position.phase ≡ Some outcomes.TimedOut →
    is_complete client.last.end.position.phase ≡ false → GaveUpUnanswered programs client p
clients_give_up stores sources inputs outputs programs order joined k client p found peer out incomplete =
    gave_up _ _ p peer out incomplete (served_by _ (kept_at_last _ _ _ _ (traces_joint stores sources inputs outputs)
    (λ p pad. server_steps_keep p pad) _ _ joined 0) k _ p found peer)

pub clients_seen : {S F D G K : Type 0} (stores : StoreMeaning S D) (sources : SourceMeaning F)
    (inputs : SourceMeaning G) (outputs : SinkMeaning K) → ClientsGiveUpUnanswered stores sources inputs outputs
clients_seen stores sources inputs outputs programs order joined k client p found peer out incomplete =
    search (rules, seen, clients_give_up)

module _ {S F D G K : Type 0} (stores : StoreMeaning S D) (sources : SourceMeaning F) (inputs : SourceMeaning G)
    (outputs : SinkMeaning K) where
  -- a client without a peer still asks
  still_asking : {to : Endpoint} (client : ClientProgram inputs outputs to) → (record_of client.last.end).peer ≡ None →
      (client.last.end.position.last_sent ≡ client.first.position.last_sent)
      × (client.last.end.position.last_sent_to ≡ client.first.position.last_sent_to)
  still_asking client none =
      still_asks [] [] (begun client.backoff client.port client.reading client.first client.before)
      (asked_in client.opens) (limit_in client.opens) (waits_first client.opens) client.runs (takes_none [] client.runs)
      none

  -- a client without a peer
  pub gave_up_unheard : (programs : Programs stores sources inputs outputs) (client : ClientOf programs) →
      peer_of (client_end programs client) ≡ None → outcome_of client.last.end.position.phase ≡ Some outcomes.TimedOut →
      is_complete client.last.end.position.phase ≡ false → GaveUpUnheard programs client
  gave_up_unheard programs client none out incomplete =
      let unheard =
      give_up_unheard inputs outputs client.first client.last.end _ (client_opening client.opens) (client_lives
      client.runs) none out incomplete in
      let tells = client_tells client in
      let asks = still_asking client none in
      let there : client.last.end.position.last_sent_to ≡ requests_at programs = asks.1 ∙ asks_there client.opens in
      let same : newest client.last.end ≡ Said (requests_at programs) client.first.position.last_sent =
      cc (there, asks.0) in
      record {
        unheard = unheard;
        client_noted = client_noted client.before client.runs;
        request = asks.0;
        copies = search (std_rules, tells_copies, requests_at, acts_in);
        unreceived = λ from bytes near had. elim (tells_received client.port client.noted _ tells from bytes had) [
          | inl took ↦ absurd (true≢false (sym near ∙ (rw there at (unheard.unheard from bytes took))))
          | inr lost ↦ lost
        ];
      }

  -- by the peer of the client
  times_out_by : (programs : Programs stores sources inputs outputs) (order : List Noted) → AreJoined programs order →
      (k : ℕ) (client : ClientOf programs) → slice_get programs.clients k ≡ Some client →
      outcome_of client.last.end.position.phase ≡ Some outcomes.TimedOut →
      is_complete client.last.end.position.phase ≡ false →
      (o : Option Endpoint) → peer_of (client_end programs client) ≡ o →
      GaveUpUnheard programs client ⊎ ((p : Endpoint) × GaveUpUnanswered programs client p)
  times_out_by programs order joined k client found out incomplete None none =
      inl (gave_up_unheard programs client none out incomplete)
  times_out_by programs order joined k client found out incomplete (Some p) peer =
      inr (
        p,
        clients_give_up stores sources inputs outputs programs order joined k client p found peer out incomplete,
      )

  pub clients_time_out_so : ClientsTimeOutSo stores sources inputs outputs
  clients_time_out_so programs order joined k client found out incomplete =
      times_out_by programs order joined k client found out incomplete (peer_of (client_end programs client)) refl

  pub transfers_give_up_unanswered : TransfersGiveUpUnanswered stores sources inputs outputs
  transfers_give_up_unanswered programs client p serves was living peer out incomplete =
      give_up_unanswered sources (drafting_sink stores) inputs outputs p (client_at client) living.first
      serves.transfer.end _
      client.first client.last.end _ living.begins living.life (client_opening client.opens) (client_lives client.runs)
      (search (flipped (is_sender serves.transfer.end.role.side) (is_sender client.last.end.role.side) serves.other))
      out incomplete
