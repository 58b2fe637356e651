-- The parts that are tested are those between the slashes.
use Rattle.std.proofs.Common.{rules, tests}
use Rattle.std.specs.Prelude.{◌==◌}
use Rattle.std.proofs.lemmas.Iterator.Splits.{YieldsList-from_slice_split}
use Rattle.std.proofs.lemmas.Iterator.Search.{all_from_yields_List}
use Rattle.tftp_file.specs.Path.{is_segment}
use Rattle.tftp_file.proofs.path.has_good_segments.Goals as goal

pub returns : goal.returns
returns c =
    all_from_yields_List is_segment _ _ c.all.result c.all.ensures.ran
    (YieldsList-from_slice_split _
    (λ byte. byte == 47) c.args.path.now c.split.ensures.rest c.split.ensures.done c.split.ensures.closure
    (λ x b q k. search (rules, tests)))
    (λ x b q k. search (rules, tests))
