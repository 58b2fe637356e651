-- The two names have other lengths.
use Rattle.std.proofs.lemmas.Grind.{common_steps}
use Rattle.tftp_client.proofs.Common.{rules, ◌≡◌, ◌++◌, codes, string_bytes}
use Rattle.std.proofs.Common.{arith as std_arith}
use Rattle.tftp_client.proofs.local_names.LocalNames.of.Goals as goal

pub invariant_of-result : goal.invariant_of-result
invariant_of-result c =
    let local = c.args.local.now in
    let part_is : string_bytes c.in_ok-format.field-0 ≡ local ++ codes ".part" = search rules in
    let local_is : string_bytes c.in_ok-from_str.field-0 ≡ local = search rules in
    grind (std_arith, common_steps)
