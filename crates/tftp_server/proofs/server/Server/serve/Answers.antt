-- What was appended for a transfer that does not open is cut off again.
use Rattle.std.proofs.Common.{◌≡◌, length, rules}
use Rattle.tftp_server.proofs.RequestLemmas.{cut_off}
use Rattle.tftp_server.proofs.server.Server.serve.Goals as goal

pub returns-in_default-clause-sent : goal.returns-in_default-clause-sent
returns-in_default-clause-sent g c =
    let start : c.len-start.result ≡ length c.args.out.now.items = search rules in
    cut_off _ _ _ _ _ start c.in-Ok-serve_source.ensures.serves.1 c.truncate.ensures.items

pub returns-in-Err-clause-sends : goal.returns-in-Err-clause-sends
returns-in-Err-clause-sends g c = search rules

pub returns-in-Err-serve_source-clause-sends : goal.returns-in-Err-serve_source-clause-sends
returns-in-Err-serve_source-clause-sends g c = search rules

pub returns-in-Ok-from_slice-clause-sends : goal.returns-in-Ok-from_slice-clause-sends
returns-in-Ok-from_slice-clause-sends g c = search rules

pub returns-in_default-clause-sends : goal.returns-in_default-clause-sends
returns-in_default-clause-sends g c = search rules
