-- The settings are kept by each call.
use Rattle.std.proofs.Common.{refl, ◌∙◌}
use Rattle.std.specs.Prelude.{⊤, IfOk, Result, Ok, Err}
use Rattle.tftp_folder.specs.Settings.{SameSettings}
use Rattle.tftp_folder.specs.declared.folder_store.FolderStore.{FolderStore}
use Rattle.tftp_daemon.proofs.Keeping.{run_leaves}
use Rattle.tftp_daemon.proofs.laws.a_run_keeps_the_settings.Goals as goal

joined : {R G H W : Type 0} {a b c : FolderStore R G H W} → SameSettings a b → SameSettings b c → SameSettings a c
joined first second = record {
  read_only = second.read_only ∙ first.read_only;
  uploads = second.uploads ∙ first.uploads;
  root = second.root ∙ first.root;
  drafts = second.drafts ∙ first.drafts;
}

any : {A E : Type 0} (result : Result A E) → IfOk result (λ value. ⊤)
any (Ok value) = tt
any (Err fault) = tt

pub returns : goal.returns
returns g c =
    run_leaves SameSettings _ _ (λ start. record { read_only = refl; uploads = refl; root = refl; drafts = refl })
    (λ start. record {
      begun = λ path replace before after result has does. (joined has does.settings, any result);
      appended = λ bytes before after draft draft' fault has of does. (joined has does.store.settings, tt);
      committed = λ path replace before after draft draft' fault has of does. (joined has does.settings, tt);
      behind = λ before after has does. joined has does.settings;
      drafts_behind = λ draft draft' of does. tt;
    })
