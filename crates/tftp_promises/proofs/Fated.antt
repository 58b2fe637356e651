-- Each datagram at the request port is settled. For the law each_request_is_settled.
use Rattle.tftp_promises.proofs.Common.{List, ℕ, ◌≡◌, rules, sym, Endpoint, ◌∙◌, ap, SourceMeaning, Some, subst, inl}
use Rattle.tftp_promises.proofs.Common.{StoreMeaning, inr, None, ◌⊎◌, Option, LoopState, LoopStep, Run, Then, Start}
use Rattle.tftp_promises.proofs.Common.{IsBlockSize, state_is, Config, AnswersRequest, Request_lost, Request_received}
use Rattle.tftp_loop.specs.Steps.LoopStep.{Request_answered}
use Rattle.tftp_promises.specs.Fates.{IsAnswered, Is_known, Is_refused, Opens, RequestsAreSettled, WasReceived}
use Rattle.tftp_promises.specs.Fates.{WasSettled}
use Rattle.tftp_promises.proofs.Requested.{Begins_to_send, Begins_to_store, PortAnswers, Says_error, Silent}
use Rattle.tftp_promises.proofs.Requested.{port_answers}
use Rattle.tftp_promises.proofs.TransferLives.{run_config}
use Rattle.tftp_promises.proofs.Orders.{both_parts}

module _ {S F D : Type 0} (stores : StoreMeaning S D) (sources : SourceMeaning F) where
  -- how the port answers
  answered_by : {old new : LoopState S F D} (d : AnswersRequest stores sources old new) →
      PortAnswers stores sources old.server d.from d.bytes d.steps.decoded d.steps.repeated d.steps.came → IsAnswered d
  answered_by d (Silent none why) = Is_known none why
  answered_by d (Says_error refused) = Is_refused refused.reply refused.store refused.is
  answered_by d (Begins_to_send path mode options asked o) = Opens _ _ o.is
  answered_by d (Begins_to_store path mode options asked o) = Opens _ _ o.is

  nothing_pending : {P : Type 0} (from : Endpoint) (bytes : List ℕ) (o : Option (Endpoint × List ℕ)) → o ≡ None →
      o ≡ Some (from, bytes) → P
  nothing_pending from bytes o none some = absurd (let f : None ≡ Some (from, bytes) = sym none ∙ some in cc)

  abbrev pending_of : LoopState S F D → Option (Endpoint × List ℕ)
  pending_of s = s.pending

  module _ {start : LoopState S F D} (max : IsBlockSize start.server.config.limits.max_block) (from : Endpoint)
      (bytes : List ℕ) where
    abbrev Known : {now : LoopState S F D} → Run (LoopStep stores sources) start now → Type 0
    Known {now} run = (now.pending ≡ Some (from, bytes)) ⊎ WasSettled from bytes run

    -- a step that leaves the pending datagram
    stays_known : {old new : LoopState S F D} (run : Run (LoopStep stores sources) start old)
        (does : LoopStep stores sources old new) → new.pending ≡ old.pending → Known run → Known (Then run does)
    stays_known run does same h3 = search rules

    known : {now : LoopState S F D} (run : Run (LoopStep stores sources) start now) → WasReceived from bytes run → Known run
    known Start received = absurd received
    known (Then run (Request_received d)) (inl is) =
        inl (ap pending_of d.is ∙ (ap (λ (a : Endpoint). Some (a, d.bytes)) is.0 ∙ ap (λ (b : List ℕ). Some (from, b)) is.1))
    known (Then {middle} run (Request_received d)) (inr before) = elim (known run before) [
      | inl pending ↦ nothing_pending from bytes middle.pending d.none pending
      | inr settled ↦ inr (inr settled)
    ]
    known (Then {middle} run (Request_answered d)) (inr before) = elim (known run before) [
      | inl pending ↦
          let same = both_parts d.from from d.bytes bytes middle.pending d.pending pending in
          let here = subst (λ (c : Config). IsBlockSize c.limits.max_block) (sym (run_config stores sources run)) max in
          inr (inl (
            same.0,
            same.1,
            answered_by d (port_answers stores sources middle.server d.from d.bytes here d.tid d.left d.steps),
          ))
      | inr settled ↦ inr (inr settled)
    ]
    known (Then {middle} run (Request_lost d)) (inr before) = elim (known run before) [
      | inl pending ↦ inr (inl (both_parts d.from from d.bytes bytes middle.pending d.pending pending))
      | inr settled ↦ inr (inr settled)
    ]
    known (Then run does) (inr before) = stays_known run does (ap pending_of (state_is does)) (known run before)
    known (Then run does) (inl is) = absurd is

  pub requests_settled : RequestsAreSettled stores sources
  requests_settled to server from bytes received = known server.max_block from bytes server.run received
