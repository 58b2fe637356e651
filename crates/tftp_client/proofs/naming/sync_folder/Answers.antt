-- The one call is the sync.
use Rattle.std.proofs.Common.{rules}
use Rattle.tftp_client.proofs.NamedFile.{on_ok, synced_all, unsynced_all}
use Rattle.tftp_client.proofs.Running.{if_err}
use Rattle.tftp_client.proofs.naming.sync_folder.Goals as goal

pub returns-clause-ok : goal.returns-clause-ok
returns-clause-ok g c = search (rules, on_ok, synced_all)

pub returns-clause-err : goal.returns-clause-err
returns-clause-err g c = search (rules, if_err, unsynced_all)
