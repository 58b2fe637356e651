-- A datagram that spells no read request is not served, and neither is one whose options are refused.
use Rattle.tftp_c.proofs.Common.{inl, inr, refl, subst}
use Rattle.tftp_wire.specs.Borrowed.{owned_request}
use Rattle.tftp_negotiate.specs.declared.known.Kind.TheVariants as kinds
use Rattle.tftp_negotiate.specs.declared.limits.Limits.{Limits}
use Rattle.tftp_c.specs.Faults.{AnswerRefused}
use Rattle.tftp_c.proofs.serving.serve_get.Goals as goal

pub returns-in-None-clause-err : goal.returns-in-None-clause-err
returns-in-None-clause-err c = inr (inl (refl, c.in-None.ensures.none refl))

pub returns-in-Err-clause-err : goal.returns-in-Err-clause-err
returns-in-Err-clause-err c =
    inr
    (inr
    (inl
    (record {
      request = owned_request c.in-Some-request_in.asked;
      asked = c.in-Some-request_in.ensures.some;
      why =
          subst
          (λ (l : Limits). AnswerRefused c.args.options.now (owned_request c.in-Some-request_in.asked) kinds.Read
          c.args.length l c.in-Err.fault)
          c.in-Some.ensures.some.0
          c.in-Err.ensures.err;
    })))
