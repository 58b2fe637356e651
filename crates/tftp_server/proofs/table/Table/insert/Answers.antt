-- A value in a new slot joins index and slots; when out of memory, both are as before.
use Rattle.std.proofs.Common.{ap, sym, ◌∙◌, rules}
use Rattle.slab.specs.Slab.{Slab}
use Rattle.tftp_server.proofs.TableLemmas.{joined-same, IsJoined-same, IsJoined-kept, joined-kept}
use Rattle.tftp_server.proofs.TableLemmas.{IsJoined-after_insert, joined-after_insert, on_err, updates_at}
use Rattle.tftp_server.proofs.table.Table.insert.Goals as goal

pub invariant_of-self : goal.invariant_of-self
invariant_of-self g c = IsJoined-same _ _ _ (ap (λ s. s.slots) c.reserve.ensures.rest_kept) c.self.invariant

pub returns-in_default-clause-err : goal.returns-in_default-clause-err
returns-in_default-clause-err g c = search (rules, on_err, joined-same)

pub invariant_of-self-in_default-insert : goal.invariant_of-self-in_default-insert
invariant_of-self-in_default-insert g c =
    IsJoined-kept _ _ _ _ c.in_default-insert.ensures.err (ap (λ s. s.slots) c.reserve.ensures.rest_kept) c.self.invariant

pub returns-in_default-insert-clause-err : goal.returns-in_default-insert-clause-err
returns-in_default-insert-clause-err g c = search (rules, on_err, joined-kept)

pub invariant_of-self-2 : goal.invariant_of-self-2
invariant_of-self-2 g c =
    IsJoined-after_insert _ _ _ _ _ _ _ _ c.in-Ok-insert.ensures.entries (ap (λ (s : Slab g.row.T.Denot). s.slots)
    c.reserve.ensures.rest_kept) c.self.invariant c.vacant_key.ensures.vacant (updates_at _ _ _ _ _
    (c.insert_reserved.ensures.key ∙ sym c.vacant_key.ensures.value) c.insert_reserved.ensures.updates)

pub returns-clause-ok : goal.returns-clause-ok
returns-clause-ok g c = search (rules, joined-after_insert, updates_at)
