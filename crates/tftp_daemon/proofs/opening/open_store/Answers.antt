-- The settings leave the root of the store, and their calls are inside it.
use Rattle.std.proofs.Common.{◌≡◌, ◌∙◌, ℕ, List, ap, subst, sym}
use Rattle.std.specs.String.{string_bytes}
use Rattle.tftp_disk.specs.DiskTrace.{DiskEvent}
use Rattle.tftp_folder.specs.Inside.{StaysInside}
use Rattle.tftp_folder.specs.Opened.{IsRootOf, follows}
use Rattle.tftp_folder.specs.declared.folder_store.FolderStore.{FolderStore}
use Rattle.tftp_daemon.proofs.opening.open_store.Goals as goal
use Rattle.tftp_daemon.proofs.opening.open_store.Goals.{then-config, else-config}
use Rattle.tftp_daemon.proofs.opening.open_store.Goals.{in-Some+in_default-admit_uploads, in_default}

same_root : {D G H W : Type 0} {a b : FolderStore D G H W} → a ≡ b
    → string_bytes a.folder.root ≡ string_bytes b.folder.root
same_root {D} {G} {H} {W} same = ap (λ (s : FolderStore D G H W). string_bytes s.folder.root) same

-- the root of a store, by its own history since this one
abbrev HasRoot : {D G H W : Type 0} → (D → List DiskEvent) → List ℕ → List DiskEvent → FolderStore D G H W
    → Type 0
HasRoot log path start store = IsRootOf path (string_bytes store.folder.root) start (log store.disk)

-- calls that follow nothing leave it
followed : {path root : List ℕ} {start before after : List DiskEvent} → follows after ≡ follows before
    → IsRootOf path root start before → IsRootOf path root start after
followed same is = record {
  text = is.text;
  found = is.found;
  looked = same ∙ is.looked;
  is_folder = is.is_folder;
  whole = is.whole;
}

pub returns-clause-root : goal.returns-clause-root
returns-clause-root g c =
    let path = c.args.config.now.root.now in
    let start = g.D.Looks.log c.args.disk in
    let second : HasRoot g.D.Looks.log path start c.if-config.store =
    elim c.if-config.branch [
      | then-config w ↦
          subst (HasRoot g.D.Looks.log path start) (sym (w.store-is ∙ w.refuse_writes.ensures)) c.in-Ok.ensures.root
      | else-config w ↦ subst (HasRoot g.D.Looks.log path start) (sym w.store-is) c.in-Ok.ensures.root
    ] in
    elim c.match-config.branch [
      | in-Some+in_default-admit_uploads w ↦
          subst (HasRoot g.D.Looks.log path start) (sym w.store-is)
          (subst (λ (root : List ℕ). IsRootOf path root start (g.D.Looks.log w.admit_uploads.new.self.disk))
          (sym (same_root w.admit_uploads.ensures.rest)) (followed w.admit_uploads.ensures.follows second))
      | in_default w ↦ subst (HasRoot g.D.Looks.log path start) (sym w.store-is) second
    ]

-- the calls of a store since this history are inside its root
abbrev IsStoreInside : {D G H W : Type 0} → (D → List DiskEvent) → List DiskEvent → FolderStore D G H W → Type 0
IsStoreInside log start store = StaysInside (string_bytes store.folder.root) start (log store.disk)

pub returns-clause-inside : goal.returns-clause-inside
returns-clause-inside g c =
    let start = g.D.Looks.log c.args.disk in
    let Inside : FolderStore _ _ _ _ → Type 0 = IsStoreInside g.D.Looks.log start in
    let second : Inside c.if-config.store =
    elim c.if-config.branch [
      | then-config w ↦
          subst Inside (sym (w.store-is ∙ w.refuse_writes.ensures)) c.in-Ok.ensures.inside
      | else-config w ↦ subst Inside (sym w.store-is) c.in-Ok.ensures.inside
    ] in
    elim c.match-config.branch [
      | in-Some+in_default-admit_uploads w ↦
          subst Inside (sym w.store-is)
          (subst (λ (root : List ℕ). StaysInside root start (g.D.Looks.log w.admit_uploads.new.self.disk))
          (sym (same_root w.admit_uploads.ensures.rest))
          (λ before. w.admit_uploads.ensures.inside (second before)))
      | in_default w ↦ subst Inside (sym w.store-is) second
    ]
