-- The root stays, and what a source gives is of its file.
use Rattle.std.proofs.Common.{refl}
use Rattle.tftp_daemon.proofs.SentFiles.{only_asked_files_leave}
use Rattle.tftp_daemon.proofs.laws.only_what_was_asked_leaves_the_folder.Goals as goal

pub returns : goal.returns
returns g c =
    only_asked_files_leave _ _ _ (λ store. refl) (λ root path mode stated source opens. opens)
    c.gives_its_file.ensures c.a_run_keeps_the_settings.ensures c.a_server_sends_only_what_was_asked.ensures
