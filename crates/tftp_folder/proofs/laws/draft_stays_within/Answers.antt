-- The draft is the store's, and so is its name.
use Rattle.tftp_folder.proofs.ChangingLemmas.{begins_own, commit_stays_within}
use Rattle.tftp_folder.proofs.laws.draft_stays_within.Goals as goal

pub returns-clause-begun : goal.returns-clause-begun
returns-clause-begun g c = begins_own c.args.draft.now

pub returns-clause-committed : goal.returns-clause-committed
returns-clause-committed g c = commit_stays_within c.args.draft.now
