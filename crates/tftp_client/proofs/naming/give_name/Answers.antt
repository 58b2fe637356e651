-- The folder that was synced is that of the name.
use Rattle.std.proofs.Common.{rules}
use Rattle.tftp_client.proofs.Common.{List, ℕ, ◌++◌, ◌≡◌, sym, ap, subst, ∥∥₁_map, string_bytes, FileState, Looked}
use Rattle.tftp_client.proofs.Common.{calls_of, handed, SyncsFolder, Keeps, NamesBytes, paths_of}
use Rattle.tftp_disk.specs.DiskTrace.{state_of}
use Rattle.tftp_client.proofs.NamedFile.{folder_later, on_ok, was_named}
use Rattle.tftp_client.proofs.StillThere.{call_leaves, err_so, left_as, same_there}
use Rattle.tftp_client.proofs.naming.give_name.Goals as goal

pub put_name-requires-clause-still : goal.put_name-requires-clause-still
put_name-requires-clause-still g c =
    call_leaves (string_bytes c.args.names.now.part) c.args.written.now c.examine.new.self
    (Looked c.as_str.result.now c.look.result) (g.D.Looks.log c.args.disk.now) (g.D.Looks.log c.look.new.self) tt
    (ap (λ (file : FileState). file.made_when) c.examine.ensures.state) c.look.ensures c.requires.still

pub returns-clause-keeps : goal.returns-clause-keeps
returns-clause-keeps g c = search rules

pub returns-clause-ok : goal.returns-clause-ok
returns-clause-ok g c =
    let paths = paths_of c.args.names.now c.args.existing in
    let before = g.D.Looks.log c.args.disk.now in
    let found = g.D.Looks.log c.look.new.self in
    let after = g.D.Looks.log c.put_name.new.disk in
    let keeps : Keeps paths before after = search rules in
    let same : handed c.examine.new.self.writer ≡ handed c.args.written.now.writer =
    λ k. (c.examine.ensures.state k).written ++ (c.examine.ensures.buffer k).items in
    on_ok c.put_name.result (λ named. ∥∥₁_map (folder_later c.args.folder.now.folder paths before after keeps
    c.requires.folder) (λ fits. was_named c.args.folder.now.folder paths (handed c.args.written.now.writer) after fits
    (subst (λ (bytes : List ℕ). NamesBytes (SyncsFolder c.args.folder.now.folder) paths bytes after) same named)))
    c.put_name.ensures.ok

pub returns-in_err-opened-clause-err : goal.returns-in_err-opened-clause-err
returns-in_err-opened-clause-err g c =
    let part = string_bytes c.args.names.now.part in
    let before = g.D.Looks.log c.args.disk.now in
    let old = state_of (calls_of c.args.written.now.writer) in
    let new = state_of (calls_of c.examine.new.self.writer) in
    err_so c.from_residual.result (left_as (paths_of c.args.names.now c.args.existing) c.examine.new.self before
    (same_there _ _ _ _ (ap (λ (file : FileState). file.made_when) (sym c.examine.ensures.state)) c.requires.still))

pub returns-in_err-found-clause-err : goal.returns-in_err-found-clause-err
returns-in_err-found-clause-err g c =
    let found = g.D.Looks.log c.look.new.self in
    err_so c.from_residual-in_err-found.result
    (left_as (paths_of c.args.names.now c.args.existing) c.examine.new.self found
    (call_leaves (string_bytes c.args.names.now.part) c.args.written.now c.examine.new.self
    (Looked c.as_str.result.now c.look.result) (g.D.Looks.log c.args.disk.now) found tt
    (ap (λ (file : FileState). file.made_when) c.examine.ensures.state) c.look.ensures c.requires.still))

pub returns-then-not-is-clause-err : goal.returns-then-not-is-clause-err
returns-then-not-is-clause-err g c =
    let found = g.D.Looks.log c.look.new.self in
    left_as (paths_of c.args.names.now c.args.existing) c.examine.new.self found
    (call_leaves (string_bytes c.args.names.now.part) c.args.written.now c.examine.new.self
    (Looked c.as_str.result.now c.look.result) (g.D.Looks.log c.args.disk.now) found tt
    (ap (λ (file : FileState). file.made_when) c.examine.ensures.state) c.look.ensures c.requires.still)
