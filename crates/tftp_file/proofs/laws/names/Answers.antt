-- The lemmas that are the law.
use Rattle.tftp_file.proofs.PathLemmas.{path_from_name, name_from_path}
use Rattle.tftp_file.proofs.laws.names.Goals as goal

pub returns : goal.returns
returns c = λ name path. (path_from_name name path, name_from_path name path)
