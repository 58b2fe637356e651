-- Without the entry and its slot, index and slots are joined as before.
use Rattle.std.proofs.Common.{sym, rules}
use Rattle.std.specs.BTreeMap.{is_at}
use Rattle.std.specs.Ordering.{nat_cmp}
use Rattle.tftp_server.proofs.TableLemmas.{joined-lookup, joined-absent, joined-after_remove, IsJoined-after_remove}
use Rattle.tftp_server.proofs.TableLemmas.{remove_nothing, joined-kept}
use Rattle.tftp_server.proofs.table.Table.remove.Goals as goal

pub invariant_of-self : goal.invariant_of-self
invariant_of-self g c =
    IsJoined-after_remove (is_at (nat_cmp c.args.tid)) c.self.inside.index.entries _ c.self.inside.slots _ c.in-Some.key
    c.remove.ensures.entries c.self.invariant (sym c.in-Some.ensures.value) c.try_remove.ensures.updates

pub returns-in-Some-clause-value : goal.returns-in-Some-clause-value
returns-in-Some-clause-value g c = search (rules, joined-lookup)

pub returns-in-Some-clause-others : goal.returns-in-Some-clause-others
returns-in-Some-clause-others g c = search (rules, joined-after_remove)

pub returns-in-None-clause-value : goal.returns-in-None-clause-value
returns-in-None-clause-value g c = search (rules, joined-absent)

pub returns-in-None-clause-others : goal.returns-in-None-clause-others
returns-in-None-clause-others g c = search (rules, joined-absent, joined-kept, remove_nothing)
