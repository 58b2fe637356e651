-- What was named has what was appended, and stays so; what was not is left.
use Rattle.std.proofs.Common.{rules}
use Rattle.tftp_client.proofs.Common.{ℕ, List, sym, ap, subst, ◌∙◌, length, ∥∥₁_map, Paths, WasNamed, bytes_in}
use Rattle.tftp_client.proofs.Common.{paths_of}
use Rattle.tftp_client.proofs.TriedOnce.{given_still}
use Rattle.tftp_client.proofs.local.LocalFileSink.commit.Goals as goal

pub invariant_of-self-clause-named : goal.invariant_of-self-clause-named
invariant_of-self-clause-named g c committed =
    let old = c.args.self.now.part in
    let new = c.commit.new.self in
    let after = g.D.Looks.log new.disk in (
      c.in-Ok.ensures.tried,
      ∥∥₁_map c.in-Ok.ensures.named (λ named.
          subst (λ (bytes : List ℕ). WasNamed (paths_of new.names new.existing) bytes after) (sym c.commit.ensures.bytes)
          (subst (λ (paths : Paths). WasNamed paths (bytes_in old.written) after) (sym c.commit.ensures.place.same) named)),
    )

pub returns-in-Err-clause-leaves : goal.returns-in-Err-clause-leaves
returns-in-Err-clause-leaves g c = search rules

pub invariant_of-self-in-Err-1 : goal.invariant_of-self-in-Err-1
invariant_of-self-in-Err-1 g c =
    let old = c.args.self.now.part in
    let new = c.commit.new.self in
    record {
      counts = c.args.self.now.counts ∙ sym (ap length c.commit.ensures.bytes);
      named = λ committed. given_still old new c.commit.ensures.same (c.args.self.now.named committed);
      left = search rules;
    }
