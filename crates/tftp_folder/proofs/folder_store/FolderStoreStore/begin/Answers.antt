-- Nothing was tried.
use Rattle.std.proofs.Common.{rules, refl}
use Rattle.tftp_folder.specs.Begin.TriesDraft.{Nothing}
use Rattle.tftp_folder.proofs.MakingLemmas.{on_err}
use Rattle.tftp_folder.proofs.ReachedLemmas.{looks_reach}
use Rattle.tftp_folder.proofs.folder_store.FolderStoreStore.begin.Goals as goal

pub returns-in_err-check_admitted-clause-begun : goal.returns-in_err-check_admitted-clause-begun
returns-in_err-check_admitted-clause-begun g c = record {
  settings = search rules;
  read_only = search rules;
  untouched = λ is. refl;
  is_path = search rules;
  uploads = search rules;
  made = search rules;
  not_made = on_err c.from_residual.result Nothing;
  there = search rules;
  others = λ path when none still. still;
  reaches = looks_reach _ _ _ refl;
  follows = refl;
  inside = λ drafts all. all;
}

pub returns-in_err-memory-clause-begun : goal.returns-in_err-memory-clause-begun
returns-in_err-memory-clause-begun g c = record {
  settings = search rules;
  read_only = search rules;
  untouched = λ is. refl;
  is_path = search rules;
  uploads = search rules;
  made = search rules;
  not_made = on_err c.from_residual-in_err-memory.result Nothing;
  there = search rules;
  others = λ path when none still. still;
  reaches = looks_reach _ _ _ refl;
  follows = refl;
  inside = λ drafts all. all;
}
