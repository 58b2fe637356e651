-- The bytes read are held, or the read has failed.
use Rattle.std.proofs.Common.{rules, ◌≡◌, length, arith}
use Rattle.std.proofs.lemmas.List.{drop_all, places}
use Rattle.tftp_file.proofs.AheadLemmas.{reads_ahead}
use Rattle.tftp_file.proofs.ahead.AheadSource.read_ahead.Goals as goal

pub returns-clause-ahead : goal.returns-clause-ahead
returns-clause-ahead g c =
    let read = c.read_block-self-inside.ensures in
    let inside = c.self.inside in
    let long : c.len.result ≡ length inside.buffer.items = search (rules, places) in
    rw (← c.self.view_is) (reads_ahead _ _ g.met.S.Source.joins g.met.S.Source.stays _ _ _ c.if-self.false (drop_all
    inside.at inside.buffer.items (omega (arith, long, c.if-self-len.false))) read.same read.left read.read read.fails)
