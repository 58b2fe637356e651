-- The lemma that is the law.
use Rattle.tftp_words.proofs.PutFromDiskMade.{puts_from_disk}
use Rattle.tftp_words.proofs.laws.complete_puts_go_from_disk_to_disk.Goals as goal

pub returns : goal.returns
returns g c =
    puts_from_disk
    (record { settings = c.a_run_keeps_the_settings.ensures; drafts = c.stores_what_it_took.ensures })
    c.words_keep_promises.ensures.files
