-- What a server drops at its request port begins as no request, and only with `--requests-only`. For
-- `a_server_drops_no_request`.
use Rattle.std.proofs.Common.{rules}
use Rattle.tftp_loop.proofs.Common.{◌≡◌, ◌∙◌, ℕ, true, false, List, refl, true≢false, SourceMeaning, Endpoint}
use Rattle.tftp_loop.proofs.Common.{StoreMeaning, Run, Start, Then, LoopState, LoopStep, at_start}
use Rattle.tftp_loop.specs.Dropped.{AnswersOnlyRequests, DropsNoRequest, DropsOnlyIfTold, IsDropped}
use Rattle.tftp_loop.specs.OnlyRequests.{begins_as_request}
use Rattle.tftp_loop.specs.Steps.{RequestLoss}

module _ {S F D : Type 0} (meaning : StoreMeaning S D) (sources : SourceMeaning F) where
  -- what is dropped is no request, and the server has the option
  why_dropped : (old : LoopState S F D) (from : Endpoint) (bytes : List ℕ)
      (why : RequestLoss meaning sources old from bytes) → IsDropped meaning sources why
      → (old.requests_only ≡ true) × (begins_as_request bytes ≡ false)
  why_dropped old from bytes why dropped = search rules

  -- what is dropped spells no request
  pub drops_no_request : DropsNoRequest meaning sources
  drops_no_request old new loses request spells dropped = search rules

  -- no step changes whether it has the option
  step_only : (s t : LoopState S F D) → LoopStep meaning sources s t → t.requests_only ≡ s.requests_only
  step_only s t does = search rules

  stays_only : (s t : LoopState S F D) → Run (LoopStep meaning sources) s t → t.requests_only ≡ s.requests_only
  stays_only s t Start = refl
  stays_only s t (Then {middle} run does) = step_only middle t does ∙ stays_only s middle run

  -- without `--requests-only` nothing is dropped as no request
  pub drops_only_if_told : DropsOnlyIfTold meaning sources
  drops_only_if_told config port reading server before old new off run loses dropped =
      search (rules, true≢false, why_dropped, stays_only, at_start)

  -- with it each datagram that is answered begins as a request
  pub answers_only_requests : AnswersOnlyRequests meaning sources
  answers_only_requests config port reading server before old new on run answers =
      answers.handled (stays_only (at_start config port server reading before) old run ∙ on)
