-- The lock of a name below the root is there, too.
use Rattle.std.proofs.Common.{◌∙◌, ap, subst, sym}
use Rattle.tftp_folder.specs.Inside.{AreInside}
use Rattle.tftp_folder.specs.Opened.{follows}
use Rattle.tftp_folder.specs.Placed.{NamesThere}
use Rattle.tftp_folder.proofs.InsideLemmas.{lock_inside}
use Rattle.tftp_folder.proofs.LeavesLemmas.{make_within}
use Rattle.tftp_folder.proofs.PlacedLemmas.{lock_there}
use Rattle.tftp_folder.proofs.ReachedLemmas.{lock_reached, make_reaches, remove_reaches, then_reaches}
use Rattle.tftp_folder.proofs.locked.rename_locked.Goals as goal

pub returns-clause-within : goal.returns-clause-within
returns-clause-within g c =
    let is_lock = c.as_str-path.ensures.value ∙ c.in-Ok.ensures in
    let made = c.make.ensures.noted in
    let renamed = c.rename_new-renamed.ensures.within in
    record {
      there = λ there names.
          subst NamesThere (sym c.remove.ensures) (renamed.there (lock_there c.args.draft.now c.as_str-path.result.now _
          (g.D.Looks.log c.args.disk.now) (g.D.Looks.log c.make.new.self) is_lock made there) (subst NamesThere (sym
          made) names));
      reaches = λ root reached.
          then_reaches _ _ _ _ (make_reaches root _ _ _ _ made) (then_reaches _ _ _ _ (renamed.reaches root
          (lock_reached _ _ _ _ _ _ is_lock made reached)) (remove_reaches root _ _ _ _ c.remove.ensures));
      follows = ap follows c.remove.ensures ∙ renamed.follows ∙ ap follows made;
      inside = λ root below all.
          let lock = lock_inside _ _ _ is_lock below.target in
          subst (AreInside root) (sym c.remove.ensures) (
            lock,
            renamed.inside root below (subst (AreInside root) (sym
                made) (lock, all)),
          );
    }

pub returns-in-Err-make-clause-within : goal.returns-in-Err-make-clause-within
returns-in-Err-make-clause-within g c =
    make_within c.args.draft.now _ _ _ _ (c.as_str-path.ensures.value ∙ c.in-Ok.ensures) c.make.ensures.noted
