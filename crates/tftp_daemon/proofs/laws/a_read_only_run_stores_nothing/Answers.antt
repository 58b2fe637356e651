-- Such a store begins no draft, and stays one.
use Rattle.std.proofs.Common.{◌≡◌, ◌∙◌, true}
use Rattle.std.specs.Prelude.{Ok, Err}
use Rattle.tftp_file.specs.declared.fault.StoreFault.TheVariants.{Io}
use Rattle.tftp_daemon.proofs.NoneStores.{stores_nothing}
use Rattle.tftp_daemon.proofs.laws.a_read_only_run_stores_nothing.Goals as goal

pub returns : goal.returns
returns g c =
    stores_nothing (λ store. store.is_read_only ≡ true) _ _ c.a_run_keeps_the_settings.ensures
    (λ a b same stops. same.read_only ∙ stops)
    (λ path replace a b draft stops begun. let bad : Ok draft ≡ Err Io = begun.read_only stops in cc)
