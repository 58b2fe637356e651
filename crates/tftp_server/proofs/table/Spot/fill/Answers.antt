-- A value in the reserved slot joins index and slots.
use Rattle.std.proofs.Common.{refl, sym, ap, ◌∙◌, rules}
use Rattle.slab.specs.Slab.{get}
use Rattle.tftp_server.proofs.TableLemmas.{IsJoined-after_insert, joined-after_insert, updates_at}
use Rattle.tftp_server.proofs.table.Spot.fill.Goals as goal

pub invariant_of-result : goal.invariant_of-result
invariant_of-result g c =
    let spot = c.requires.2 in
    IsJoined-after_insert _ _ _ _ _ _ _ _ spot.grown refl spot.is_joined (ap (get c.args.self.slots) (sym
    c.insert_reserved.ensures.key) ∙ c.insert_reserved.ensures.was_vacant) (updates_at _ _ _ _ _
    c.insert_reserved.ensures.key c.insert_reserved.ensures.updates)

pub returns : goal.returns
returns g c tid held spot = search (rules, joined-after_insert, updates_at)
