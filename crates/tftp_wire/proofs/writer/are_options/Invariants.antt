-- The options are valid exactly if those from the index on are.
use Rattle.std.proofs.Common.{drop}
use Rattle.std.specs.List.{AllByRecursion}
use Rattle.std.specs.Prelude.{◌↔◌}
use Rattle.tftp_wire.specs.Options.{IsOption}
use Rattle.tftp_wire.proofs.writer.are_options.Given as goal

abbrev pub invariant-loop-option : goal.invariant-loop-option
invariant-loop-option l = AllByRecursion IsOption (drop l.option-index l.options) ↔ AllByRecursion IsOption l.options
