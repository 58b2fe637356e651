-- What is left of the order once its first ports are mixed and one is used.
use Rattle.tftp_loop.proofs.Common.{◌∙◌}
use Rattle.std.proofs.lemmas.Option.{IfSome_then}
use Rattle.tftp_loop.proofs.PoolLemmas.{mixed_within, next_some, next_uses, next_within, same_range, still_within}
use Rattle.tftp_loop.proofs.port_pool.draw_port.Goals as goal

pub returns-clause-range : goal.returns-clause-range
returns-clause-range c =
    same_range c.mix.new.self c.next.new.self c.next.result c.next.ensures ∙ c.mix.ensures.range

pub returns-clause-ports : goal.returns-clause-ports
returns-clause-ports c =
    still_within c.mix.new.self c.next.new.self c.next.result (mixed_within c.args.among c.args.order.now c.mix.new.self
    c.requires c.mix.ensures) c.next.ensures

pub returns-clause-port : goal.returns-clause-port
returns-clause-port c =
    let has = mixed_within c.args.among c.args.order.now c.mix.new.self c.requires c.mix.ensures in
    let next = next_within c.mix.new.self c.next.new.self c.next.result has c.next.ensures in
    rw (c.mix.ensures.range) at next

pub returns-clause-draws : goal.returns-clause-draws
returns-clause-draws c =
    IfSome_then c.next.result (next_uses c.mix.new.self c.next.new.self c.next.result c.next.ensures)
    (λ port uses. (c.mix.new.self, c.mix.ensures, uses))

pub returns-clause-some : goal.returns-clause-some
returns-clause-some c =
    next_some c.mix.new.self c.next.new.self c.next.result (mixed_within c.args.among c.args.order.now c.mix.new.self
    c.requires c.mix.ensures) c.next.ensures
