use Rattle.std.proofs.Common.{rules}
use Rattle.tftp_folder.proofs.UploadLemmas.{below}
use Rattle.tftp_folder.proofs.below.is_below.Goals as goal

-- What begins with the folder and a slash is below it.
pub returns-in-Some-len1-up : goal.returns-in-Some-len1-up
returns-in-Some-len1-up c = search (rules, below)
