-- The place is looked for, and then the file of the draft is made: no other path is changed.
use Rattle.std.proofs.lemmas.Grind.{common_steps}
use Rattle.std.proofs.Common.{◌∙◌, List, ap, refl, rules, subst, sym, arith}
use Rattle.std.specs.String.{string_bytes}
use Rattle.tftp_disk.specs.Changes.{changes}
use Rattle.tftp_disk.specs.DiskTrace.{DiskEvent}
use Rattle.tftp_folder.specs.Begin.{TriesDraft}
use Rattle.tftp_folder.specs.Begin.TriesDraft.{Nothing}
use Rattle.tftp_folder.specs.Inside.{IsInside}
use Rattle.tftp_folder.proofs.MakingLemmas.{calls_inside, follows_by, made_calls, makes_draft, new_draft_there, on_err, others_by, tries_by}
use Rattle.tftp_folder.proofs.PlacedLemmas.{same_there, still_by, then_others}
use Rattle.tftp_folder.proofs.ReachedLemmas.{draft_reaches, looks_reach, then_reaches}
use Rattle.tftp_folder.proofs.beginning.begin_draft.Goals as goal

pub returns-in_err-place-clause-err : goal.returns-in_err-place-clause-err
returns-in_err-place-clause-err g c =
    on_err c.from_residual.result (subst (TriesDraft (string_bytes c.args.served.now.drafts) c.args.port (changes (g.D.Looks.log c.args.disk.now)))
    (sym c.place_to_write.ensures.looks.changes) Nothing)

pub returns-in_err-place-clause-others : goal.returns-in_err-place-clause-others
returns-in_err-place-clause-others g c = search (rules, still_by)

pub returns-in_err-made-clause-err : goal.returns-in_err-made-clause-err
returns-in_err-made-clause-err g c = grind (arith, common_steps, on_err, tries_by)

pub returns-in_err-made-clause-others : goal.returns-in_err-made-clause-others
returns-in_err-made-clause-others g c =
    then_others _ _ _ _ _ c.place_to_write.ensures.looks.placed (others_by _ _ _ _ c.in_err-made.ensures.err)

pub returns-in_err-made-clause-follows : goal.returns-in_err-made-clause-follows
returns-in_err-made-clause-follows g c = grind (arith, common_steps, follows_by)

pub returns-in_err-made-clause-inside : goal.returns-in_err-made-clause-inside
returns-in_err-made-clause-inside g c = λ drafts target all.
    calls_inside _ _ _ _ _ drafts c.in_err-made.ensures.err (c.place_to_write.ensures.inside drafts (subst (IsInside (string_bytes c.args.served.now.root)) (sym c.as_str.ensures.value) target) all)

pub returns-in-Ok-clause-others : goal.returns-in-Ok-clause-others
returns-in-Ok-clause-others g c =
    then_others _ _ _ _ _ c.place_to_write.ensures.looks.placed (others_by _ _ _ _ (made_calls _ _ _ _ _ _
    c.in_ok-made.ensures.ok))

pub returns-in-Ok-clause-follows : goal.returns-in-Ok-clause-follows
returns-in-Ok-clause-follows g c = grind (arith, common_steps, follows_by, made_calls)

pub returns-in-Ok-clause-inside : goal.returns-in-Ok-clause-inside
returns-in-Ok-clause-inside g c = λ drafts target all.
    calls_inside _ _ _ _ _ drafts (made_calls _ _ _ _ _ _ c.in_ok-made.ensures.ok) (c.place_to_write.ensures.inside drafts (subst (IsInside (string_bytes c.args.served.now.root)) (sym c.as_str.ensures.value) target) all)

pub returns-in-Err-clause-others : goal.returns-in-Err-clause-others
returns-in-Err-clause-others g c =
    then_others _ _ _ _ _ c.place_to_write.ensures.looks.placed (others_by _ _ _ _ (made_calls _ _ _ _ _ _
    c.in_ok-made.ensures.ok))

pub returns-in-Err-clause-follows : goal.returns-in-Err-clause-follows
returns-in-Err-clause-follows g c =
    follows_by _ _ _ _ (made_calls _ _ _ _ _ _ c.in_ok-made.ensures.ok) ∙ c.place_to_write.ensures.looks.follows

pub returns-in-Err-clause-inside : goal.returns-in-Err-clause-inside
returns-in-Err-clause-inside g c = λ drafts target all.
    calls_inside _ _ _ _ _ drafts (made_calls _ _ _ _ _ _ c.in_ok-made.ensures.ok) (c.place_to_write.ensures.inside drafts (subst (IsInside (string_bytes c.args.served.now.root)) (sym c.as_str.ensures.value) target) all)

pub returns-in-None-clause-others : goal.returns-in-None-clause-others
returns-in-None-clause-others g c =
    then_others _ _ _ _ _ c.place_to_write.ensures.looks.placed (others_by _ _ _ _ (made_calls _ _ _ _ _ _
    c.in_ok-made.ensures.ok))

pub returns-in-None-clause-follows : goal.returns-in-None-clause-follows
returns-in-None-clause-follows g c = grind (arith, common_steps, follows_by, made_calls)

pub returns-in-None-clause-inside : goal.returns-in-None-clause-inside
returns-in-None-clause-inside g c = λ drafts target all.
    calls_inside _ _ _ _ _ drafts (made_calls _ _ _ _ _ _ c.in_ok-made.ensures.ok) (c.place_to_write.ensures.inside drafts (subst (IsInside (string_bytes c.args.served.now.root)) (sym c.as_str.ensures.value) target) all)

pub returns-in-Err-clause-err : goal.returns-in-Err-clause-err
returns-in-Err-clause-err g c =
    subst (λ (before : List DiskEvent). TriesDraft (string_bytes c.args.served.now.drafts) c.args.port before (changes
    (g.D.Looks.log c.make_draft.new.disk)))
    c.place_to_write.ensures.looks.changes (tries_by _ _ _ _ (made_calls _ _ _ _ _ _ c.in_ok-made.ensures.ok))

pub returns-in-Ok-clause-ok : goal.returns-in-Ok-clause-ok
returns-in-Ok-clause-ok g c = record {
  aim =
      ap string_bytes (c.take_permissions.ensures.stays.names.target ∙ c.new-draft.ensures.target);
  empty = search rules;
  made =
      makes_draft (string_bytes c.args.served.now.drafts) c.args.port (string_bytes c.in_ok-made.made.path)
      (string_bytes c.take_permissions.new.self.draft) c.in_ok-made.made.file.trace.events (g.D.Looks.log c.args.disk.now) (g.D.Looks.log c.place_to_write.new.disk) (g.D.Looks.log c.make_draft.new.disk)
      c.place_to_write.ensures.looks.changes
      (ap string_bytes (c.take_permissions.ensures.stays.names.draft ∙ c.new-draft.ensures.draft)) c.in_ok-made.ensures.ok;
}

pub returns-in-None-clause-ok : goal.returns-in-None-clause-ok
returns-in-None-clause-ok g c = record {
  aim = ap string_bytes (c.new-draft.ensures.target);
  empty = search rules;
  made =
      makes_draft (string_bytes c.args.served.now.drafts) c.args.port (string_bytes c.in_ok-made.made.path)
      (string_bytes c.new-draft.result.draft) c.in_ok-made.made.file.trace.events (g.D.Looks.log c.args.disk.now) (g.D.Looks.log c.place_to_write.new.disk) (g.D.Looks.log c.make_draft.new.disk)
      c.place_to_write.ensures.looks.changes (ap string_bytes c.new-draft.ensures.draft) c.in_ok-made.ensures.ok;
}

pub returns-in-Ok-clause-there : goal.returns-in-Ok-clause-there
returns-in-Ok-clause-there g c =
    same_there _ _ _ c.take_permissions.ensures.stays.names (new_draft_there _ _ _ _ _ _ _ _ _ (ap string_bytes
    c.new-draft.ensures.draft) refl c.new-draft.ensures.writer c.new-writer.ensures.file c.in_ok-made.ensures.ok)

pub returns-in-None-clause-there : goal.returns-in-None-clause-there
returns-in-None-clause-there g c =
    new_draft_there _ _ _ _ _ _ _ _ _ (ap string_bytes c.new-draft.ensures.draft) refl c.new-draft.ensures.writer
    c.new-writer.ensures.file c.in_ok-made.ensures.ok

pub returns-in_err-place-clause-reaches : goal.returns-in_err-place-clause-reaches
returns-in_err-place-clause-reaches g c = search (rules, looks_reach)

pub returns-in_err-made-clause-reaches : goal.returns-in_err-made-clause-reaches
returns-in_err-made-clause-reaches g c = λ root.
    then_reaches _ _ _ _ (looks_reach root _ _ c.place_to_write.ensures.looks.placed) (draft_reaches root _ _ _ _
    c.in_err-made.ensures.err)

pub returns-in-Ok-clause-reaches : goal.returns-in-Ok-clause-reaches
returns-in-Ok-clause-reaches g c = λ root.
    then_reaches _ _ _ _ (looks_reach root _ _ c.place_to_write.ensures.looks.placed) (draft_reaches root _ _ _ _ (made_calls
    _ _ _ _ _ _ c.in_ok-made.ensures.ok))

pub returns-in-Err-clause-reaches : goal.returns-in-Err-clause-reaches
returns-in-Err-clause-reaches g c = λ root.
    then_reaches _ _ _ _ (looks_reach root _ _ c.place_to_write.ensures.looks.placed) (draft_reaches root _ _ _ _ (made_calls
    _ _ _ _ _ _ c.in_ok-made.ensures.ok))

pub returns-in-None-clause-reaches : goal.returns-in-None-clause-reaches
returns-in-None-clause-reaches g c = λ root.
    then_reaches _ _ _ _ (looks_reach root _ _ c.place_to_write.ensures.looks.placed) (draft_reaches root _ _ _ _ (made_calls
    _ _ _ _ _ _ c.in_ok-made.ensures.ok))
