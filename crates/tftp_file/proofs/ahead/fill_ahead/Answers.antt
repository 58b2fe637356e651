-- No byte is held, or enough bytes, or fewer than are requested.
use Rattle.std.proofs.Common.{rules, ◌≡◌, Err, length, drop, arith, length-drop}
use Rattle.std.proofs.lemmas.List.{drop_all, places}
use Rattle.tftp_file.proofs.AheadLemmas.{fills_below, fills_or_keeps, fills_rest}
use Rattle.tftp_file.proofs.ahead.fill_ahead.Goals as goal

pub returns-then-held-eq0-clause-fills : goal.returns-then-held-eq0-clause-fills
returns-then-held-eq0-clause-fills g c =
    let items = c.args.buffer.now.items in
    let long : c.len.result ≡ length items = search (rules, places) in
    fills_below (drop c.args.at.now items) _ _ c.args.want c.args.out.now.items c.fill.new.out.items c.fill.result
    (drop_all c.args.at.now items (omega (arith, long, c.if-held-eq0.true))) c.fill.ensures.fills

pub returns-then-want-held-clause-fills : goal.returns-then-want-held-clause-fills
returns-then-want-held-clause-fills g c =
    let items = c.args.buffer.now.items in
    let taken = c.take_held.ensures in
    let long : c.len.result ≡ length items = search (rules, places) in
    fills_or_keeps _ _ _ _ _ _ _ (omega (arith, long, c.if-want-held.true, length-drop c.args.at.now items)) taken.count
    taken.given taken.rest taken.err taken.kept taken.fault

pub returns-in-Err-clause-fills : goal.returns-in-Err-clause-fills
returns-in-Err-clause-fills g c =
    fills_rest c.deref.result.now c.args.buffer.now.items c.args.at.now _ _ c.args.want _ _
    (Err c.in-Err.fault) c.deref.ensures.value c.in-Err.ensures.err
