-- The path is no longer than the root, or it is a folder, and those above it follow.
use Rattle.std.proofs.Common.{refl}
use Rattle.tftp_folder.specs.Opened.AreFolders.{Above, Then}
use Rattle.tftp_folder.proofs.InsideLemmas.{above_inside, longer_below}
use Rattle.tftp_folder.proofs.LeavesLemmas.{then_looks}
use Rattle.tftp_folder.proofs.naming.has_no_link.Goals as goal

pub returns-then-folder-max-clause-folders : goal.returns-then-folder-max-clause-folders
returns-then-folder-max-clause-folders g c = λ yes.
    c.loop.invariant.2 (g.L.Looks.log c.loop.looks) (Above (rw (← c.max.ensures) c.if-folder-max.true))

pub loop-preserved : goal.loop-preserved
loop-preserved g c =
    let found = c.is_folder.ensures.folder c.if-not-is_folder.false in (
      c.folder_of-folder.utf8,
      then_looks _ _ _ c.loop.invariant.1 c.is_folder.ensures.looks,
      λ after above. c.loop.invariant.2 after (Then found.2 c.folder_of-folder.ensures (rw (found.1) at above)),
      λ inside. above_inside _ _ _ _ refl (longer_below _ _ (c.loop.invariant.3 inside) (rw (c.max.ensures) at
          c.if-folder-max.false)) c.folder_of-folder.ensures,
      λ inside all. c.is_folder.ensures.inside c.args.root.now (c.loop.invariant.3 inside) (c.loop.invariant.4 inside
          all),
    )

pub returns-then-not-is_folder-clause-inside : goal.returns-then-not-is_folder-clause-inside
returns-then-not-is_folder-clause-inside g c = λ inside all.
    c.is_folder.ensures.inside c.args.root.now (c.loop.invariant.3 inside) (c.loop.invariant.4 inside all)
