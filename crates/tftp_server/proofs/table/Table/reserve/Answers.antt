-- A reserved slot changes no other; when out of memory, the table is as before.
use Rattle.std.proofs.Common.{◌≡◌, None, ap, ◌∙◌, rules}
use Rattle.std.specs.BTreeMap.{is_at}
use Rattle.std.specs.Map.{lookup}
use Rattle.std.specs.Ordering.{nat_cmp}
use Rattle.tftp_server.specs.Table.{joined}
use Rattle.tftp_server.proofs.TableLemmas.{joined-same, IsJoined-same, IsJoined-kept, joined-kept, index_absent}
use Rattle.tftp_server.proofs.table.Table.reserve.Goals as goal

pub invariant_of-result : goal.invariant_of-result
invariant_of-result g c = IsJoined-same _ _ _ (ap (λ s. s.slots) c.reserve.ensures.rest_kept) c.self.invariant

pub returns-in_default-clause-err : goal.returns-in_default-clause-err
returns-in_default-clause-err g c = search (rules, joined-same)

pub invariant_of-result-in-Err : goal.invariant_of-result-in-Err
invariant_of-result-in-Err g c =
    IsJoined-kept _ _ _ _ c.in-Err.ensures.err (ap (λ s. s.slots) c.reserve.ensures.rest_kept) c.self.invariant

pub returns-in-Err-clause-err : goal.returns-in-Err-clause-err
returns-in-Err-clause-err g c = search (rules, joined-kept)

pub returns-in-Ok-insert-clause-spot : goal.returns-in-Ok-insert-clause-spot
returns-in-Ok-insert-clause-spot g c =
    let same = ap (λ s. s.slots) c.reserve.ensures.rest_kept in
    let none : lookup (is_at (nat_cmp c.args.tid)) (joined c.self.inside.index.entries c.self.inside.slots) ≡ None =
    rw (c.self.view_is) c.requires in
    record {
      before = c.self.inside.index.entries;
      is_joined = IsJoined-same _ _ _ same c.self.invariant;
      holds = joined-same c.self.inside.index.entries _ _ same ∙ c.self.view_is;
      absent = index_absent _ _ _ c.self.invariant none;
      grown = search rules;
      room = c.in-Ok.ensures.room;
    }
