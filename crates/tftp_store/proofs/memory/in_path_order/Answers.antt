-- One more file is inserted among those before it.
use Rattle.std.proofs.Common.{ap, sym, ◌∙◌}
use Rattle.tftp_store.specs.Store.{with_file}
use Rattle.tftp_store.proofs.MemoryLemmas.{in_path_order-push}
use Rattle.tftp_store.proofs.memory.in_path_order.Goals as goal

pub loop-path-preserved : goal.loop-path-preserved
loop-path-preserved c =
    c.in_ok-add.ensures
    ∙ ap (λ es. with_file es c.in-Some.path c.in-Some.bytes.items) c.loop-path.invariant
    ∙ sym (in_path_order-push c.loop-path.yielded (c.in-Some.path, c.in-Some.bytes))
