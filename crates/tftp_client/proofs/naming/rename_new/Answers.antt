-- Nothing was found at the name.
use Rattle.std.proofs.Common.{rules}
use Rattle.tftp_client.proofs.Common.{string_bytes, made_when, calls_of, paths_of}
use Rattle.tftp_client.proofs.StillThere.{left_as, left_there}
use Rattle.tftp_client.proofs.naming.rename_new.Goals as goal

pub returns-in-Ok-clause-keeps : goal.returns-in-Ok-clause-keeps
returns-in-Ok-clause-keeps g c = search rules

pub rename-requires-clause-still : goal.rename-requires-clause-still
rename-requires-clause-still g c = search (rules, left_there, string_bytes, made_when, calls_of)

pub returns-in-Err-clause-err : goal.returns-in-Err-clause-err
returns-in-Err-clause-err g c =
    search (rules, left_as, paths_of, left_there, string_bytes, made_when, calls_of)
