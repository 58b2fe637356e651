-- The file is the server's own.
use Rattle.std.proofs.Common.{List, ℕ, subst}
use Rattle.std.proofs.lemmas.Result.{on_ok_weaker}
use Rattle.std.specs.String.{string_bytes}
use Rattle.tftp_daemon.specs.Reports.{LooksApartFrom}
use Rattle.tftp_daemon.proofs.status.check_drain.Goals as goal

pub returns : goal.returns
returns g c =
    on_ok_weaker c.check_own.result
    (λ looks. record {
      own = string_bytes c.in_ok-own.own;
      is_own = c.in_ok-own.ensures;
      looks =
          subst (λ (own : List ℕ). LooksApartFrom c.args.drain.now own (g.L.Looks.log c.args.looks.now)
          (g.L.Looks.log c.check_own.new.looks)) c.as_str-2.ensures.value looks;
    })
    c.check_own.ensures
