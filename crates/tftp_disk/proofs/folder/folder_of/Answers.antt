use Rattle.std.proofs.Common.{◌≡◌, ℕ, List, ◌∷◌, ◌++◌, take, drop, sym, ap, subst, ◌∙◌, arith}
use Rattle.std.proofs.Common.{Some, take-append-drop}
use Rattle.std.proofs.lemmas.Str.Pattern.{drop_at_char, NoCharPasses-char}
use Rattle.std.specs.Str.Pattern.{RFindsChar}
use Rattle.tftp_disk.specs.Folder.{HasNoSlash, IsFolderOf, folder_or_root}
use Rattle.tftp_disk.specs.Folder.IsFolderOf.{Before, Here}
use Rattle.tftp_disk.proofs.folder.folder_of.Goals as goal

-- a path that has its last slash at i
cut_at : (path : List ℕ) (i j : ℕ) → RFindsChar 47 path (Some (i, j)) → (front name : List ℕ)
    → front ≡ take i path → name ≡ drop j path → IsFolderOf path (folder_or_root front)
cut_at path i j found front name before after =
    Before front name
    (sym (take-append-drop i path)
    ∙ ap (λ bytes. take i path ++ bytes) (drop_at_char 47 path i j found.1 (omega arith))
    ∙ (λ k. sym before k ++ 47 ∷ sym after k))
    (subst HasNoSlash (sym after) (λ k. NoCharPasses-char 47 (drop j path) k found.0 (omega arith)))

pub returns-in-Some : goal.returns-in-Some
returns-in-Some c =
    let cut = c.in-Some.ensures.cases in
    subst (IsFolderOf c.args.path.now) (sym c.folder_or_root.ensures) (cut_at _ _ _ cut.2 _ _ cut.3 cut.4)

pub returns-in-None : goal.returns-in-None
returns-in-None c = Here (λ k. NoCharPasses-char 47 c.args.path.now k c.in-None.ensures.cases (omega arith))
