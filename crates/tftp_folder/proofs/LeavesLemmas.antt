-- What calls leave as it was, one after the other.
use Rattle.std.proofs.Common.{◌≡◌, ◌∙◌, ℕ, List, ◌∷◌, Result, Err, ap, inr, subst, sym}
use Rattle.std.specs.String.{string_bytes}
use Rattle.std.specs.declared.io.Error.{Error}
use Rattle.tftp_disk.specs.Changes.{changes, renames}
use Rattle.tftp_disk.specs.DiskTrace.{DiskEvent, Done, FileState, made_when}
use Rattle.tftp_disk.specs.DiskTrace.DiskEvent.{Linked, Looked, Made, Removed}
use Rattle.tftp_disk.specs.DiskWriter.{calls_of}
use Rattle.tftp_disk.specs.declared.found.Found.{Found}
use Rattle.tftp_folder.specs.Commit.{lock_of}
use Rattle.tftp_folder.specs.Draft.{IsDraftBelow}
use Rattle.tftp_folder.specs.Inside.{AreInside, StaysInside}
use Rattle.tftp_folder.specs.Leaves.{GivesNoName, OnlyLooks}
use Rattle.tftp_folder.specs.Naming.{NamesWithin}
use Rattle.tftp_folder.specs.Opened.{follows}
use Rattle.tftp_folder.specs.Placed.{placed, NamesThere}
use Rattle.tftp_folder.specs.Uploads.{IsBelow}
use Rattle.tftp_folder.specs.declared.folder_draft.FolderDraft.{FolderDraft}
use Rattle.tftp_folder.proofs.InsideLemmas.{lock_inside}
use Rattle.tftp_folder.proofs.PlacedLemmas.{link_there, looks_there, past_there}
use Rattle.tftp_folder.proofs.ReachedLemmas.{link_reaches, looks_reach, make_reaches, refuse_reached, remove_reaches, then_reaches}

-- calls that only look, after others
pub then_looks : (a b c : List DiskEvent) → OnlyLooks a b → OnlyLooks b c → OnlyLooks a c
then_looks a b c first second = record {
  changes = second.changes ∙ first.changes;
  renames = second.renames ∙ first.renames;
  placed = second.placed ∙ first.placed;
  follows = second.follows ∙ first.follows;
}

-- one more look
pub look_more : (path : List ℕ) (answer : Result Found Error) (a b c : List DiskEvent) → OnlyLooks a b
    → c ≡ Looked path answer ∷ b → OnlyLooks a c
look_more path answer a b c first is = record {
  changes = ap changes is ∙ first.changes;
  renames = ap renames is ∙ first.renames;
  placed = ap placed is ∙ first.placed;
  follows = ap follows is ∙ first.follows;
}

-- who only looks gives no name
pub looks_unnamed : (before after : List DiskEvent) → OnlyLooks before after → GivesNoName before after
looks_unnamed before after looks = record {
  renames = looks.renames;
  there = looks_there before after looks.placed;
  reaches = λ root. looks_reach root before after looks.placed;
  follows = looks.follows;
}

pub then_unnamed : (a b c : List DiskEvent) → GivesNoName a b → GivesNoName b c → GivesNoName a c
then_unnamed a b c first second = record {
  renames = second.renames ∙ first.renames;
  there = λ names. second.there (first.there names);
  reaches = λ root. then_reaches root a b c (first.reaches root) (second.reaches root);
  follows = second.follows ∙ first.follows;
}

-- a file is removed
pub remove_unnamed : (at : List ℕ) (answer : Done) (before after : List DiskEvent) → after ≡ Removed at answer ∷ before
    → GivesNoName before after
remove_unnamed at answer before after is = record {
  renames = ap renames is;
  there = λ names. subst NamesThere (sym is) names;
  reaches = λ root. remove_reaches root at answer before after is;
  follows = ap follows is;
}

module _ {F : Type 0} (draft : FolderDraft F) where
  -- who only looks gives a draft no name
  pub looks_within : (before after : List DiskEvent) → OnlyLooks before after
      → ((root : List ℕ) → IsDraftBelow root draft → StaysInside root before after)
      → NamesWithin draft before after
  looks_within before after looks inside = record {
    there = λ there. looks_there before after looks.placed;
    reaches = λ root reached. looks_reach root before after looks.placed;
    follows = looks.follows;
    inside = inside;
  }

  -- the lock of its name is made
  pub make_within : (at : List ℕ) (answer : Done) (before after : List DiskEvent)
      → at ≡ lock_of (string_bytes draft.target) → after ≡ Made at answer ∷ before → NamesWithin draft before after
  make_within at answer before after lock is = record {
    there = λ there names. subst NamesThere (sym is) names;
    reaches = λ root reached. make_reaches root at answer before after is;
    follows = ap follows is;
    inside = λ root below all. subst (AreInside root) (sym is) (lock_inside _ _ _ lock below.target, all);
  }

  module _ (file : FileState) (from to : List ℕ) (making : file.made_when ≡ made_when (calls_of draft.writer))
      (path : from ≡ string_bytes draft.draft) (aim : to ≡ string_bytes draft.target) where
    -- it is linked to its name
    pub link_within : (answer : Done) (before after : List DiskEvent) → after ≡ Linked file from to answer ∷ before
        → NamesWithin draft before after
    link_within answer before after is = record {
      there = link_there draft file from to answer before after making path is;
      reaches = λ root. link_reaches root file from to (string_bytes draft.target) answer before after aim is;
      follows = ap follows is;
      inside = λ root below all. subst (AreInside root) (sym is) (
        (inr (subst (IsBelow root) (sym path) below.path), inr (subst (IsBelow root) (sym aim) below.target)),
        all,
      );
    }

    -- that is refused, and other calls give it its name
    pub refused_within : (refusal : Error) (before linked after : List DiskEvent)
        → linked ≡ Linked file from to (Err refusal) ∷ before → NamesWithin draft linked after
        → NamesWithin draft before after
    refused_within refusal before linked after is second =
        let first = link_within (Err refusal) before linked is in
        record {
          there = λ there names.
              second.there (past_there draft (Linked file from to (Err refusal)) before linked tt is there) (first.there
              there names);
          reaches = λ root reached.
              then_reaches root before linked after (first.reaches root reached) (second.reaches root (refuse_reached root
              file from to (string_bytes draft.target) refusal before linked aim is reached));
          follows = second.follows ∙ first.follows;
          inside = λ root below all. second.inside root below (first.inside root below all);
        }
