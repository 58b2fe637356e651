-- The lemma that is the law.
use Rattle.tftp_words.proofs.Common.{refl}
use Rattle.tftp_words.proofs.FromDiskMade.{several_from_disk}
use Rattle.tftp_words.proofs.laws.gets_of_several_go_from_disk_to_disk.Goals as goal

pub returns : goal.returns
returns g c =
    several_from_disk
    (record {
      keeps = c.a_run_keeps_the_settings.ensures;
      gives = c.gives_its_file.ensures;
      root = λ store. refl;
      opens = λ root path mode stated source opened. opened;
    })
    c.words_keep_promises.ensures.several_files
