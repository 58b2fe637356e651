-- A name that passes every test is a path.
use Rattle.std.proofs.Common.{arith, ◌≡◌, ◌<◌, true, sym}
use Rattle.std.specs.Prelude.{◌==◌, count_by}
use Rattle.std.specs.List.{list_all, slice_split}
use Rattle.tftp_file.specs.Path.{is_segment}
use Rattle.tftp_file.proofs.PathLemmas.{good}
use Rattle.tftp_file.proofs.path.check.Goals as goal

pub returns-clause-path : goal.returns-clause-path
returns-clause-path c =
    let few : count_by (λ byte. byte == 47) c.args.path.now < 8 =
    omega (arith, c.slash_count.ensures, c.if-slash_count-ge-MAX_DEPTH.false) in
    let all : list_all is_segment (slice_split (λ byte. byte == 47) c.args.path.now) ≡ true = cc in
    (good c.args.path.now (sym c.if-is_empty.ensures) c.if-path-gt-MAX_LENGTH.false few all).1
