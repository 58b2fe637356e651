use Rattle.std.proofs.Common.{lit<, rules}
use Rattle.std.proofs.lemmas.Str.Pattern.{split_parts}
use Rattle.tftp_daemon.proofs.ports.split_at_colon.Goals as goal

pub returns : goal.returns
returns c = let parts = split_parts 58 c.args.word.now c.split_once.result c.split_once.ensures.cases (lit< tt) in
    search rules
