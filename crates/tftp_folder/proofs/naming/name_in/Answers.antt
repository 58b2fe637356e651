-- The draft had got its name, as it is now.
use Rattle.std.proofs.lemmas.Grind.{common_steps}
use Rattle.std.proofs.Common.{◌∙◌, inr, arith, rules}
use Rattle.tftp_disk.specs.Changes.{changes}
use Rattle.tftp_folder.proofs.InsideLemmas.{stays_below, syncs_inside}
use Rattle.tftp_folder.proofs.NamingLemmas.{names_stay, renames_then, stays_done}
use Rattle.tftp_folder.proofs.PlacedLemmas.{syncs_placed}
use Rattle.tftp_folder.proofs.ReachedLemmas.{looks_reach, then_reaches}
use Rattle.tftp_folder.proofs.naming.name_in.Goals as goal

pub returns-in-Err-look_again-clause-err : goal.returns-in-Err-look_again-clause-err
returns-in-Err-look_again-clause-err g c = grind (arith, common_steps)

pub returns-in-Err-sync-clause-err : goal.returns-in-Err-sync-clause-err
returns-in-Err-sync-clause-err g c =
    let failed = changes (g.D.Looks.log c.sync.new.disk) in
    inr (
      changes (g.D.Looks.log c.put_name.new.disk),
      names_stay _ _ (stays_done _ _ _ c.look_again.ensures.stays c.take_back_new.ensures.stays) _ _ _
          c.in-Ok.ensures.ok,
      inr (
        failed,
        c.in-Err-sync.error,
        rw (← c.in-Ok-look_again.ensures.ok) c.in-Err-sync.ensures.err,
        c.take_back_new.ensures.removed,
      ),
    )

pub returns-in-Err-look_again-clause-over : goal.returns-in-Err-look_again-clause-over
returns-in-Err-look_again-clause-over g c = search (rules, renames_then)

pub returns-in-Ok-sync-clause-over : goal.returns-in-Ok-sync-clause-over
returns-in-Ok-sync-clause-over g c = grind (arith, common_steps)

pub returns-in-Err-sync-clause-over : goal.returns-in-Err-sync-clause-over
returns-in-Err-sync-clause-over g c =
    renames_then _ _ (g.D.Looks.log c.args.disk.now) (g.D.Looks.log c.put_name.new.disk) (g.D.Looks.log c.take_back_new.new.disk)
    c.in-Ok.ensures.over
    (c.take_back_new.ensures.unnamed.renames ∙ c.sync.ensures.renames ∙ c.look_again.ensures.unnamed.renames)

pub returns-in-Err-clause-inside : goal.returns-in-Err-clause-inside
returns-in-Err-clause-inside g c = λ fits. c.put_name.ensures.within.inside c.args.root.now

pub returns-in-Err-look_again-clause-inside : goal.returns-in-Err-look_again-clause-inside
returns-in-Err-look_again-clause-inside g c = λ fits below all.
    c.look_again.ensures.inside
    (stays_below c.args.root.now c.args.draft.now c.put_name.new.draft c.put_name.ensures.names below)
    (c.put_name.ensures.within.inside c.args.root.now below all)

pub returns-in-Ok-sync-clause-inside : goal.returns-in-Ok-sync-clause-inside
returns-in-Ok-sync-clause-inside g c = λ fits below all.
    let named = stays_below c.args.root.now c.args.draft.now c.put_name.new.draft c.put_name.ensures.names below in
    c.remove_draft.ensures.inside c.args.root.now
    (stays_below c.args.root.now c.put_name.new.draft c.look_again.new.draft c.look_again.ensures.stays.names named)
    (syncs_inside c.args.root.now c.args.folder.now.folder (g.D.Looks.log c.look_again.new.disk) (g.D.Looks.log c.sync.new.disk) fits
    c.sync.ensures.calls
    (c.look_again.ensures.inside
    (stays_below c.args.root.now c.args.draft.now c.put_name.new.draft c.put_name.ensures.names below)
    (c.put_name.ensures.within.inside c.args.root.now below all)))

pub returns-in-Err-sync-clause-inside : goal.returns-in-Err-sync-clause-inside
returns-in-Err-sync-clause-inside g c = λ fits below all.
    let named = stays_below _ _ _ c.put_name.ensures.names below in
    let looked = stays_below _ _ _ c.look_again.ensures.stays.names named in
    c.take_back_new.ensures.inside c.args.root.now looked (syncs_inside c.args.root.now c.args.folder.now.folder
    (g.D.Looks.log c.look_again.new.disk) (g.D.Looks.log c.sync.new.disk) fits c.sync.ensures.calls
    (c.look_again.ensures.inside (stays_below _ _ _ c.put_name.ensures.names below) (c.put_name.ensures.within.inside
    c.args.root.now below all)))

pub returns-in-Err-look_again-clause-there : goal.returns-in-Err-look_again-clause-there
returns-in-Err-look_again-clause-there g c = grind (arith, common_steps)

pub returns-in-Ok-sync-clause-there : goal.returns-in-Ok-sync-clause-there
returns-in-Ok-sync-clause-there g c = grind (arith, common_steps)

pub returns-in-Err-sync-clause-there : goal.returns-in-Err-sync-clause-there
returns-in-Err-sync-clause-there g c = grind (arith, common_steps)

pub returns-in-Ok-sync-clause-follows : goal.returns-in-Ok-sync-clause-follows
returns-in-Ok-sync-clause-follows g c = grind (arith, common_steps)

pub returns-in-Err-sync-clause-follows : goal.returns-in-Err-sync-clause-follows
returns-in-Err-sync-clause-follows g c = grind (arith, common_steps)

pub returns-in-Err-clause-reaches : goal.returns-in-Err-clause-reaches
returns-in-Err-clause-reaches g c = λ reached. c.put_name.ensures.within.reaches c.args.root.now reached

pub returns-in-Err-look_again-clause-reaches : goal.returns-in-Err-look_again-clause-reaches
returns-in-Err-look_again-clause-reaches g c = λ reached.
    let root = c.args.root.now in
    then_reaches _ _ _ _ (c.put_name.ensures.within.reaches root reached) (c.look_again.ensures.unnamed.reaches root)

pub returns-in-Ok-sync-clause-reaches : goal.returns-in-Ok-sync-clause-reaches
returns-in-Ok-sync-clause-reaches g c = λ reached.
    let root = c.args.root.now in
    let looked = g.D.Looks.log c.look_again.new.disk in
    let synced = g.D.Looks.log c.sync.new.disk in
    then_reaches _ _ _ _ (then_reaches _ _ _ _ (c.put_name.ensures.within.reaches root reached) (c.look_again.ensures.unnamed.reaches
    root)) (then_reaches _ _ _ _ (looks_reach root _ _ (syncs_placed c.args.folder.now.folder looked synced
    c.sync.ensures.calls)) (c.remove_draft.ensures.unnamed.reaches root))

pub returns-in-Err-sync-clause-reaches : goal.returns-in-Err-sync-clause-reaches
returns-in-Err-sync-clause-reaches g c = λ reached.
    let root = c.args.root.now in
    let looked = g.D.Looks.log c.look_again.new.disk in
    let synced = g.D.Looks.log c.sync.new.disk in
    then_reaches _ _ _ _ (then_reaches _ _ _ _ (c.put_name.ensures.within.reaches root reached) (c.look_again.ensures.unnamed.reaches
    root)) (then_reaches _ _ _ _ (looks_reach root _ _ (syncs_placed c.args.folder.now.folder looked synced
    c.sync.ensures.calls)) (c.take_back_new.ensures.unnamed.reaches root))
