-- Such a store begins drafts below its folder alone, and stays one.
use Rattle.std.proofs.Common.{◌≡◌, ◌∙◌, ℕ, List, Option, Some, subst}
use Rattle.std.specs.Prelude.{IfSome}
use Rattle.tftp_folder.specs.Uploads.{IsBelow}
use Rattle.tftp_daemon.proofs.NoneStores.{stores_only}
use Rattle.tftp_daemon.proofs.laws.uploads_stay_in_their_folder.Goals as goal

pub returns : goal.returns
returns g c folder =
    stores_only (λ store. store.uploads ≡ Some folder) _ _ c.a_run_keeps_the_settings.ensures
    (λ a b same admits. same.uploads ∙ admits) (IsBelow folder)
    (λ path replace a b draft admits begun.
    subst (λ (uploads : Option (List ℕ)). IfSome uploads (λ (f : List ℕ). IsBelow f path)) admits begun.uploads)
