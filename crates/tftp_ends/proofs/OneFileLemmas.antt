-- What a call over the one file of an end ensures, as a call over its files has it. For `End::handle_datagram` and
-- `End::on_datagram`.
use Rattle.tftp_ends.proofs.Common.{◌≡◌, ℕ, List, Result, SourceMeaning, SinkMeaning, Files, Endpoint, Step, EndState}
use Rattle.tftp_ends.proofs.Common.{Turn, reported}
use Rattle.std.proofs.Common.{IfOk, rules}
use Rattle.tftp_ends.specs.declared.fault.EndFault.{EndFault}
use Rattle.tftp_ends.specs.Step.{DatagramStep}

module _ {S K : Type 0} (sources : SourceMeaning S) (sinks : SinkMeaning K) (from : Endpoint) (bytes : List ℕ)
    (e : EndState) where
  -- the step, with what the answer gives of it, and its report; `over` is the step over the one file
  pub steps_over : {R : Type 0} (step_in : R → Step) (gives : R → Turn → Type 0) (over : Turn → Type 0)
      (files files' : Files S K) (result : Result R EndFault) →
      ((turn : Turn) → over turn → DatagramStep sources sinks from bytes e files turn files') →
      IfOk result (λ r. (turn : Turn) × over turn × gives r turn × (step_in r ≡ reported e turn)) →
      IfOk result (λ r. (turn : Turn) × DatagramStep sources sinks from bytes e files turn files' × gives r turn
      × (step_in r ≡ reported e turn))
  steps_over step_in gives over files files' result step h = search rules
