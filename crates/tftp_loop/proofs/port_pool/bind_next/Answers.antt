use Rattle.tftp_loop.proofs.Common.{arith, min, refl, sym, ap, ◌∙◌, ◌++◌, ◌∷◌, [], Start, coming, drawn_from}
use Rattle.std.proofs.lemmas.List.Sorted.{IsPermutation-refl}
use Rattle.tftp_loop.specs.PortPool.{after_bind}
use Rattle.tftp_loop.specs.PortsInTurn.{Unused, Uses}
use Rattle.tftp_loop.proofs.PoolLemmas.{all_missed, draws_few, in_vain, missed_more, tried_more}
use Rattle.tftp_loop.proofs.PortUses.{drawn_last, long, nothing_after, rest_long}
use Rattle.tftp_loop.proofs.port_pool.bind_next.Goals as goal

pub loop-port-init : goal.loop-port-init
loop-port-init g c =
    let some = c.requires.some in
    let ports = coming c.args.order.now in
    record {
      range = refl;
      ports = c.requires;
      turns = (
        [],
        Unused,
        omega (arith, c.len-left.ensures),
        λ k d h. absurd (omega (arith, h)),
        record { rest = ports; all = IsPermutation-refl ports; is = sym (nothing_after ports) },
      );
      left = omega (arith, some, c.len-left.ensures);
      half = c.drawn_from-half.ensures ∙ ap drawn_from c.range.ensures;
      tries = Start;
      told = refl;
      file = refl;
    }

pub loop-port-preserved : goal.loop-port-preserved
loop-port-preserved g c =
    let before = c.loop-port.invariant in
    let port = c.in_ok-port.port in
    let noted =
    c.bind_at.ensures.noted ∙ ap (λ bound. after_bind port bound (g.N.Udp.log c.loop-port.net)) c.in_default.is in
    let more = long before.turns.0 (port ∷ []) in
    let test = c.if-left-le1.false in
    let many = before.turns.2 in
    let draws = c.in_ok-port.ensures.draws in
    let last = before.turns.4 in
    let whole = rest_long _ _ _ last in
    let left = before.left in
    record {
      range = c.draw_port.ensures.range ∙ before.range;
      ports = c.draw_port.ensures.ports;
      turns = (
        before.turns.0 ++ port ∷ [],
        Uses before.turns.1 (draws_few _ _ _ _ _ draws before.half before.range (omega (arith, c.min.ensures))),
        omega (arith, more, test, many),
        missed_more _ _ _ noted _ before.turns.3,
        drawn_last (coming c.args.order.now) before.turns.0 c.loop-port.order draws.0 c.draw_port.new.order
            c.min.result port
            last (omega (arith, c.min.ensures, whole, many)) (omega (arith, whole, many, left)) draws.1 draws.2,
      );
      left = omega (arith, test);
      half = before.half;
      tries = tried_more _ _ _ _ (rw (← before.range) c.in_ok-port.ensures.port) noted before.tries;
      told = c.bind_at.ensures.told ∙ before.told;
      file = c.bind_at.ensures.file ∙ before.file;
    }

pub returns-in-Some-clause-turns : goal.returns-in-Some-clause-turns
returns-in-Some-clause-turns g c =
    let before = c.loop-port.invariant in
    record {
      ports = before.turns.0;
      middle = c.loop-port.order;
      port = c.in_ok-port.port;
      earlier = before.turns.1;
      last = draws_few _ _ _ _ _ c.in_ok-port.ensures.draws before.half before.range (omega (arith, c.min.ensures));
      bound = c.in-Some.ensures.bound;
    }

pub returns-then-left-le1-clause-turns : goal.returns-then-left-le1-clause-turns
returns-then-left-le1-clause-turns g c =
    let before = c.loop-port.invariant in
    search (draws_few c.loop-port.order c.draw_port.new.order c.min.result c.in_ok-port.port _
    c.in_ok-port.ensures.draws before.half before.range (omega (arith, c.min.ensures)))

pub returns-then-left-le1-clause-tries : goal.returns-then-left-le1-clause-tries
returns-then-left-le1-clause-tries g c =
    let before = c.loop-port.invariant in
    let port = c.in_ok-port.port in
    let es = g.N.Udp.log c.loop-port.net in
    let noted = c.bind_at.ensures.noted ∙ ap (λ bound. after_bind port bound es) c.in_default.is in
    let more = long before.turns.0 (port ∷ []) in
    let test = c.if-left-le1.true in
    let many = before.turns.2 in
    let left = before.left in
    let draws = c.in_ok-port.ensures.draws in
    let last = before.turns.4 in
    let whole = rest_long _ _ _ last in
    let within = rw (before.range) at c.in_ok-port.ensures.port in
    in_vain _ _ _ _ within noted before.tries (all_missed _ _ _ _ _ c.requires.all (drawn_last (coming c.args.order.now)
    before.turns.0 c.loop-port.order draws.0 c.draw_port.new.order c.min.result port last (omega (
      arith,
      c.min.ensures,
      whole,
      many,
    )) (omega (arith, whole, many, left)) draws.1 draws.2) (omega (arith, more, test, many, left))
    (missed_more _ _ _ noted _ before.turns.3))
