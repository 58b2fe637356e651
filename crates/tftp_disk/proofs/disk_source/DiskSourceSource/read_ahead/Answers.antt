-- What is read ahead is not given yet.
use Rattle.std.proofs.lemmas.Grind.{common_steps}
use Rattle.std.proofs.Common.{◌≡◌, ◌∙◌, arith, false, true, inl, is_some, sym}
use Rattle.tftp_disk.proofs.disk_source.DiskSourceSource.read_ahead.Goals as goal

pub returns-clause-ahead : goal.returns-clause-ahead
returns-clause-ahead g c =
    let sound : is_some c.args.self.now.error ≡ false = sym c.is_some.ensures ∙ c.if-is_some.false in
    record {
      left = inl tt;
      may_fail = λ want may. tt;
      fails = λ all want. absurd (let both : false ≡ true = sym sound ∙ all 0 in cc);
      gave = grind (arith, common_steps);
    }
