-- A file is found among the files in path order as in the given list.
use Rattle.std.proofs.Common.{ap, ◌∙◌}
use Rattle.tftp_store.specs.Store.{file_at}
use Rattle.tftp_store.specs.Memory.{contents}
use Rattle.tftp_store.proofs.MemoryLemmas.{in_path_order-lookup}
use Rattle.tftp_store.proofs.memory.MemStore.new.Goals as goal

pub returns-clause-found : goal.returns-clause-found
returns-clause-found c =
    λ path. ap (file_at path) c.in_ok-in_path_order.ensures
    ∙ in_path_order-lookup path (contents c.args.files.items) c.requires
