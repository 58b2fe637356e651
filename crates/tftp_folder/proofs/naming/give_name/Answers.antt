-- The folder was opened, and the draft got no name there.
use Rattle.std.proofs.lemmas.Grind.{common_steps}
use Rattle.std.proofs.lemmas.Result.{on_ok_weaker}
use Rattle.std.proofs.Common.{◌∙◌, List, ap, inr, refl, subst, sym, arith, rules}
use Rattle.std.specs.String.{string_bytes}
use Rattle.tftp_disk.specs.Changes.{changes}
use Rattle.tftp_disk.specs.DiskTrace.{DiskEvent}
use Rattle.tftp_disk.specs.NamedFolder.{OpensFolder}
use Rattle.tftp_folder.proofs.InsideLemmas.{above_inside, folder_fits, opens_inside, stays_below}
use Rattle.tftp_folder.proofs.MakingLemmas.{if_err}
use Rattle.tftp_folder.proofs.NamingLemmas.{looks_as, then_keeps, then_renames}
use Rattle.tftp_folder.proofs.PlacedLemmas.{looks_past, looks_there, opens_placed, same_there}
use Rattle.tftp_folder.proofs.ReachedLemmas.{looks_reach, then_reaches, walk_reached}
use Rattle.tftp_folder.proofs.naming.give_name.Goals as goal

pub returns-clause-stays : goal.returns-clause-stays
returns-clause-stays g c =
    on_ok_weaker c.name_in.result (λ keeps. then_keeps _ _ _ c.is_at_draft.ensures.stays keeps) c.name_in.ensures.stays

pub returns-clause-ok : goal.returns-clause-ok
returns-clause-ok g c =
    let folder = c.in-Ok.folder.folder in
    let opened = changes (g.D.Looks.log c.of.new.disk) in
    let path = c.as_str-2.result.now in
    on_ok_weaker c.name_in.result (λ names. (
      folder,
      opened,
      rw (← c.as_str-2.ensures.value ∙ ap string_bytes (sym c.name_in.ensures.names.target)) (subst (λ (before : List
          DiskEvent). OpensFolder path folder before opened)
          (c.leads_to.ensures.looks.changes ∙ c.is_at_draft.ensures.looks.changes) c.in-Ok.ensures.ok),
      names,
    )) c.name_in.ensures.ok

pub returns-clause-err : goal.returns-clause-err
returns-clause-err g c =
    let folder = c.in-Ok.folder.folder in
    let opened = changes (g.D.Looks.log c.of.new.disk) in
    let path = c.as_str-2.result.now in
    if_err c.name_in.result (λ none. inr (inr (
      folder,
      opened,
      rw (← c.as_str-2.ensures.value ∙ ap string_bytes (sym c.name_in.ensures.names.target)) (subst (λ (before : List
          DiskEvent). OpensFolder path folder before opened)
          (c.leads_to.ensures.looks.changes ∙ c.is_at_draft.ensures.looks.changes) c.in-Ok.ensures.ok),
      none,
    ))) c.name_in.ensures.err

pub returns-clause-over : goal.returns-clause-over
returns-clause-over g c =
    then_renames _ _ (g.D.Looks.log c.args.disk.now) (g.D.Looks.log c.of.new.disk) (g.D.Looks.log c.name_in.new.disk)
    (c.of.ensures.renames ∙ c.leads_to.ensures.looks.renames ∙ c.is_at_draft.ensures.looks.renames)
    (looks_as _ _ _ _ (g.D.Looks.log c.of.new.disk) (g.D.Looks.log c.name_in.new.disk) refl
    (ap string_bytes c.is_at_draft.ensures.stays.names.target) c.name_in.ensures.over)

pub returns-then-not-is_at_draft-clause-inside : goal.returns-then-not-is_at_draft-clause-inside
returns-then-not-is_at_draft-clause-inside g c = λ below. c.is_at_draft.ensures.inside c.args.root.now (inr below.path)

pub returns-then-not-leads_to-clause-inside : goal.returns-then-not-leads_to-clause-inside
returns-then-not-leads_to-clause-inside g c = λ below all.
    let root = c.args.root.now in
    let own = stays_below _ _ _ c.is_at_draft.ensures.stays.names below in
    c.leads_to.ensures.inside (above_inside _ _ _ _ c.as_str.ensures.value own.target c.folder_of-folder.ensures)
    (c.is_at_draft.ensures.inside root (inr below.path) all)

pub returns-in-Err-clause-inside : goal.returns-in-Err-clause-inside
returns-in-Err-clause-inside g c = λ below all.
    let root = c.args.root.now in
    let own = stays_below _ _ _ c.is_at_draft.ensures.stays.names below in
    opens_inside _ _ _ _ _ c.as_str-2.ensures.value own.target c.of.ensures.calls (c.leads_to.ensures.inside
    (above_inside _ _ _ _ c.as_str.ensures.value own.target c.folder_of-folder.ensures) (c.is_at_draft.ensures.inside
    root (inr below.path) all))

pub returns-clause-inside : goal.returns-clause-inside
returns-clause-inside g c = λ below all.
    let root = c.args.root.now in
    let own = stays_below _ _ _ c.is_at_draft.ensures.stays.names below in
    c.name_in.ensures.inside (folder_fits _ _ _ _ c.as_str-2.ensures.value own.target _ c.in-Ok.ensures.fits) own
    (opens_inside _ _ _ _ _ c.as_str-2.ensures.value own.target c.of.ensures.calls (c.leads_to.ensures.inside
    (above_inside _ _ _ _ c.as_str.ensures.value own.target c.folder_of-folder.ensures) (c.is_at_draft.ensures.inside
    root (inr below.path) all)))

pub returns-then-not-is_at_draft-clause-there : goal.returns-then-not-is_at_draft-clause-there
returns-then-not-is_at_draft-clause-there g c = search rules

pub returns-then-not-leads_to-clause-there : goal.returns-then-not-leads_to-clause-there
returns-then-not-leads_to-clause-there g c = search rules

pub returns-in-Err-clause-there : goal.returns-in-Err-clause-there
returns-in-Err-clause-there g c = grind (arith, common_steps)

pub returns-in-Err-clause-follows : goal.returns-in-Err-clause-follows
returns-in-Err-clause-follows g c = grind (arith, common_steps)

pub returns-clause-there : goal.returns-clause-there
returns-clause-there g c = λ there names.
    let before = g.D.Looks.log c.args.disk.now in
    let opened = g.D.Looks.log c.of.new.disk in
    let same = opens_placed _ _ _ c.of.ensures.calls ∙ c.leads_to.ensures.looks.placed ∙ c.is_at_draft.ensures.looks.placed in
    c.name_in.ensures.there (same_there c.args.draft.now c.is_at_draft.new.self opened c.is_at_draft.ensures.stays.names
    (looks_past c.args.draft.now before opened same there)) (looks_there before opened same names)

pub returns-clause-follows : goal.returns-clause-follows
returns-clause-follows g c = grind (arith, common_steps)

pub returns-then-not-is_at_draft-clause-reaches : goal.returns-then-not-is_at_draft-clause-reaches
returns-then-not-is_at_draft-clause-reaches g c = search (rules, looks_reach)

pub returns-then-not-leads_to-clause-reaches : goal.returns-then-not-leads_to-clause-reaches
returns-then-not-leads_to-clause-reaches g c = grind (arith, common_steps)

pub returns-in-Err-clause-reaches : goal.returns-in-Err-clause-reaches
returns-in-Err-clause-reaches g c = grind (arith, common_steps)

pub returns-clause-reaches : goal.returns-clause-reaches
returns-clause-reaches g c =
    let root = c.args.root.now in
    let before = g.D.Looks.log c.args.disk.now in
    let looked = g.D.Looks.log c.leads_to.new.looks in
    let opened = g.D.Looks.log c.of.new.disk in
    then_reaches _ _ _ _ (looks_reach root _ _ (opens_placed _ _ _ c.of.ensures.calls ∙ c.leads_to.ensures.looks.placed ∙
    c.is_at_draft.ensures.looks.placed)) (c.name_in.ensures.reaches (walk_reached _ _ _ _ _ _ _ c.as_str.ensures.value
    c.as_str-2.ensures.value c.folder_of-folder.ensures (c.leads_to.ensures.folders c.if-not-leads_to.false)
    c.of.ensures.calls))
