-- The server has the store that was opened.
use Rattle.std.proofs.Common.{◌≡◌, subst, sym, option_map}
use Rattle.std.specs.String.{string_bytes}
use Rattle.tftp_folder.specs.Counted.{lengths_in}
use Rattle.tftp_folder.specs.Effects.{changes_of}
use Rattle.tftp_disk.specs.Changes.{changes}
use Rattle.tftp_folder.specs.Inside.{StaysInside}
use Rattle.tftp_folder.specs.Opened.{IsRootOf}
use Rattle.tftp_folder.specs.declared.folder_store.FolderStore.{FolderStore}
use Rattle.tftp_daemon.specs.Configured.{IsUploads, drafts_in}
use Rattle.tftp_daemon.proofs.opening.open_server.Goals as goal

pub returns-in-Ok-new : goal.returns-in-Ok-new
returns-in-Ok-new g c =
    let same : c.in-Ok.store ≡ c.in-Ok-new.server.store = sym c.in-Ok-new.ensures.store in
    record {
      valid = c.requires;
      limits = c.in-Ok-new.ensures.config;
      empty = c.in-Ok-new.ensures.empty;
      root =
          subst (λ (s : FolderStore _ _ _ _). IsRootOf c.args.config.now.root.now (string_bytes s.folder.root)
          (g.D.Looks.log c.args.disk) (g.D.Looks.log s.disk)) same
          c.in-Ok.ensures.root;
      read_only =
          subst (λ (s : FolderStore _ _ _ _). s.is_read_only ≡ c.args.config.now.read_only) same
          c.in-Ok.ensures.read_only;
      uploads =
          subst (λ (s : FolderStore _ _ _ _).
          IsUploads (option_map (λ folder. folder.now) c.args.config.now.uploads) s.uploads) same
          c.in-Ok.ensures.uploads;
      drafts =
          subst (λ (s : FolderStore _ _ _ _).
          string_bytes s.folder.drafts ≡ drafts_in (string_bytes s.folder.root) s.uploads) same
          c.in-Ok.ensures.drafts;
      unchanged =
          subst (λ (s : FolderStore _ _ _ _). changes_of g.D.Looks.log s ≡ changes (g.D.Looks.log c.args.disk)) same
          c.in-Ok.ensures.unchanged;
      inside =
          subst (λ (s : FolderStore _ _ _ _). StaysInside (string_bytes s.folder.root)
          (g.D.Looks.log c.args.disk) (g.D.Looks.log s.disk)) same
          c.in-Ok.ensures.inside;
      lengths =
          subst (λ (s : FolderStore _ _ _ _). s.lengths.most ≡ lengths_in c.args.config.now.length_memory) same
          c.in-Ok.ensures.lengths;
    }
