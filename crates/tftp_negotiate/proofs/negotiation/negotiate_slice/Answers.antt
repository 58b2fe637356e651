-- A slice of owned options yields them one by one.
use Rattle.std.proofs.Common.{◌∙◌, List, Option, map, ap, rules, tests}
use Rattle.std.specs.Iterator.{AlwaysYields}
use Rattle.std.proofs.lemmas.List.{map-id}
use Rattle.std.proofs.lemmas.Iterator.{YieldsList, YieldsList-from_slice, YieldsList-from_map_by}
use Rattle.tftp_wire.specs.Borrowed.{owned_option}
use Rattle.tftp_negotiate.specs.Negotiation.{negotiated}
use Rattle.tftp_negotiate.specs.Policy.{judged}
use Rattle.tftp_negotiate.proofs.negotiation.negotiate_slice.Goals as goal

runs_of : {S A B : Type 0} {steps : S → Option A → S → Type 0} {v : A → B} {s : S} {ys : List B}
    → YieldsList steps v s ys → AlwaysYields steps v s ys
runs_of yields = yields.runs

pub returns-clause-agreed : goal.returns-clause-agreed
returns-clause-agreed c =
    c.negotiate.ensures.agreed (map (λ o. o) c.args.options.now)
    (runs_of (YieldsList-from_map_by {s = c.map-borrowed.result} _ owned_option (λ o. o)
    (YieldsList-from_slice c.args.options.now cc) c.map-borrowed.ensures.closure (λ x r q k. search (rules, tests))))
    ∙ ap (negotiated (judged c.args.policy.now)) (map-id c.args.options.now)
