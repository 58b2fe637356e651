-- Each client that is not complete is so for a stated reason. For the law a_client_ends_for_a_reason.
use Rattle.tftp_promises.proofs.Common.{cases_Bool, List, ℕ, ◌≡◌, sym, Endpoint, refl, ◌∙◌, ap, SourceMeaning, Some, inl}
use Rattle.tftp_promises.proofs.Common.{StoreMeaning, inr, SinkMeaning, false, true, None, Programs, ◌⊎◌, Option}
use Rattle.tftp_promises.proofs.Common.{true≢false, slice_get, ClientOf, is_sender, client_at, Noted, not, is_complete}
use Rattle.tftp_promises.proofs.Common.{AreJoined, client_end, IsSeenUnanswered, HasFailed, IsOver}
use Rattle.tftp_promises.specs.AnyFiles.{peer_of}
use Rattle.tftp_promises.specs.Explained.{IsExplained, Goes_on, Failed, Of_request, Too_long, Of_transfer}
use Rattle.tftp_promises.specs.Explained.{ProgramsAreExplained}
use Rattle.tftp_promises.proofs.FirstAnswers.{too_long}
use Rattle.tftp_promises.proofs.Outlasting.{client_complete, client_fails, client_is, either_other, transfer_fails}
use Rattle.tftp_promises.proofs.Fated.{requests_settled}
use Rattle.tftp_promises.proofs.GivingUp.{clients_seen, gave_up_unheard}

module _ {S F D G K : Type 0} (stores : StoreMeaning S D) (sources : SourceMeaning F) (inputs : SourceMeaning G)
    (outputs : SinkMeaning K) where
  module _ (programs : Programs stores sources inputs outputs) (order : List Noted) (joined : AreJoined programs order)
      (k : ℕ) (client : ClientOf programs) (found : slice_get programs.clients k ≡ Some client)
      (incomplete : is_complete client.last.end.position.phase ≡ false) where
    -- ---- with a peer
    module _ (p : Endpoint) (peer : peer_of (client_end programs client) ≡ Some p) where
      -- the transfer is over: it has failed, or it received all
      over : (seen : IsSeenUnanswered programs client p) → IsOver seen.gave_up.serves.transfer.end →
          HasFailed seen.gave_up.serves.transfer.end ⊎ ((is_sender client.last.end.role.side ≡ true)
          × (is_complete seen.gave_up.serves.transfer.end.position.phase ≡ true))
      over seen over_is =
          let serves = seen.gave_up.serves in
          elim (cases_Bool (is_complete serves.transfer.end.position.phase)) [
            | inr not_yet ↦ inl (transfer_fails joined k found p peer serves over_is not_yet)
            | inl is ↦ elim (cases_Bool (is_sender client.last.end.role.side)) [
              | inl sends ↦ inr (sends, is)
              | inr receives ↦
                  absurd (true≢false (sym (client_complete joined k found p peer serves
                  (serves.other ∙ ap not receives) is) ∙ incomplete))
            ]
          ]

      with_peer : IsExplained programs client
      with_peer = elim (client_is joined k found) [
        | inl over_is ↦
            Failed (client_fails joined k found p peer over_is incomplete)
        | inr other ↦ elim other [
          | inl on ↦ Goes_on on.0
          | inr gave ↦
              let seen = clients_seen stores sources inputs outputs programs order joined k client p found peer gave.0
              gave.1 in
              Of_transfer p peer (record { seen = seen; over = over seen })
        ]
      ]

    -- ---- without one
    without : peer_of (client_end programs client) ≡ None → IsExplained programs client
    without none = elim (client_is joined k found) [
      | inl over_is ↦ elim over_is [
        | inl complete ↦ absurd (true≢false (sym complete ∙ incomplete))
        | inr closed ↦ elim (either_other closed.0 closed.2) [
          | inl failure ↦ Failed (incomplete, closed.0, closed.1, failure)
          | inr refusal ↦
              Too_long none (too_long joined k found none closed.0 closed.1 refusal)
        ]
      ]
      | inr other ↦ elim other [
        | inl on ↦ Goes_on on.0
        | inr gave ↦
            Of_request none (search (
              gave_up_unheard stores sources inputs outputs programs client none gave.0 gave.1,
              requests_settled stores sources _ programs.server (client_at client)
                  client.last.end.position.last_sent,
            ))
      ]
    ]

    by_peer : (o : Option Endpoint) → peer_of (client_end programs client) ≡ o → IsExplained programs client
    by_peer None none = without none
    by_peer (Some p) peer = with_peer p peer

  pub programs_explained : ProgramsAreExplained stores sources inputs outputs
  programs_explained programs order joined k client found incomplete = by_peer _ _ joined k _ found incomplete _ refl
