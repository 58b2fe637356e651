-- An append leaves the name, and is refused once that was tried.
use Rattle.std.proofs.lemmas.Grind.{common_steps}
use Rattle.tftp_client.proofs.Common.{◌≡◌, ℕ, false, List, Option, Some, Err, sym, ap, ◌∙◌, length, AppendsFreely}
use Rattle.tftp_client.proofs.Common.{Holding, StoreFault, bytes_in, held_of}
use Rattle.std.proofs.Common.{◌≢◌, arith, rules}
use Rattle.tftp_file.specs.declared.fault.StoreFault.TheVariants.{Memory}
use Rattle.tftp_client.proofs.TriedOnce.{append_left, given_still, untried_left}
use Rattle.tftp_client.proofs.local.LocalFileSink.append.Goals as goal

-- an append that is refused leaves what the file holds
refused : (fault : StoreFault) (before : Holding) (after : Option Holding) (piece : List ℕ)
    → fault ≢ Memory → after ≡ Some before
    → AppendsFreely {A = Unit {0}} before after piece (Err fault)
refused fault before after piece other same = search rules

pub returns-in_default-clause-appends : goal.returns-in_default-clause-appends
returns-in_default-clause-appends g c = grind (arith, common_steps, held_of, bytes_in, false, refused)

pub returns-in-Err-clause-appends : goal.returns-in-Err-clause-appends
returns-in-Err-clause-appends g c = grind (arith, common_steps, bytes_in, held_of, false, refused)

pub returns-in-Err-clause-leaves : goal.returns-in-Err-clause-leaves
returns-in-Err-clause-leaves g c = search rules

pub invariant_of-self-clause-left : goal.invariant_of-self-clause-left
invariant_of-self-clause-left g c open_file =
    untried_left c.append.new.self (c.append.ensures.tried ∙ c.in-Ok.ensures.untried)

pub invariant_of-self-in-Err-1 : goal.invariant_of-self-in-Err-1
invariant_of-self-in-Err-1 g c =
    let old = c.args.self.now.part in
    let new = c.append.new.self in
    record {
      counts = c.args.self.now.counts ∙ sym (ap length c.in-Err.ensures.err);
      named = λ committed. given_still old new c.append.ensures.same (c.args.self.now.named committed);
      left = λ open_file.
          append_left old new c.append.ensures.same c.append.ensures.tried (c.args.self.now.left open_file);
    }
