-- The value in the slot that the index names is lent, and the others stay.
use Rattle.std.proofs.Common.{rules}
use Rattle.tftp_server.proofs.TableLemmas.{IsJoined-lent, joined-lent_for, joined-lookup_for}
use Rattle.tftp_server.proofs.table.Table.get_mut.Goals as goal

pub invariant_of-self-lent : goal.invariant_of-self-lent
invariant_of-self-lent g c =
    λ lent. (
      λ w. IsJoined-lent c.self.inside.index.entries c.self.inside.slots c.key_at-key.result w c.self.invariant,
      c.self.invariant,
    )

pub returns : goal.returns
returns g c = search (rules, joined-lent_for, joined-lookup_for)
