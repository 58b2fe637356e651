-- The file was renamed over what had the name.
use Rattle.std.proofs.Common.{rules}
use Rattle.tftp_client.proofs.Common.{sym, ◌∙◌, string_bytes, calls_of, paths_of}
use Rattle.tftp_disk.specs.DiskTrace.{state_of}
use Rattle.tftp_client.proofs.NamedFile.{on_ok}
use Rattle.tftp_client.proofs.StillThere.{call_leaves, err_so, left_as, left_there, same_there}
use Rattle.tftp_client.proofs.naming.replace.Goals as goal

pub returns-clause-keeps : goal.returns-clause-keeps
returns-clause-keeps g c = search rules

pub returns-clause-ok : goal.returns-clause-ok
returns-clause-ok g c =
    let part = string_bytes c.args.names.now.part in
    let before = g.D.Looks.log c.args.disk.now in
    let found = g.D.Looks.log c.look-found.new.self in
    let old = state_of (calls_of c.args.written.now.writer) in
    let new = state_of (calls_of c.keep_permissions.new.self.writer) in
    let whole = c.requires.whole in
    let kept = c.keep_permissions.ensures.content in
    on_ok c.rename.result (λ renames. (
      new,
      found,
      search (
        kept.place ∙ whole.place,
        kept.content ∙ whole.content,
        kept.synced ∙ whole.synced,
        kept.sound ∙
            whole.sound,
      ),
      same_there _ _ _ _ (sym kept.making) (left_there _ _ _ _ _ tt c.look-found.ensures c.requires.still),
      renames,
    )) c.rename.ensures.ok

pub rename-requires-clause-still : goal.rename-requires-clause-still
rename-requires-clause-still g c = search (rules, call_leaves, string_bytes)

pub returns-in_err-keep_permissions-clause-err : goal.returns-in_err-keep_permissions-clause-err
returns-in_err-keep_permissions-clause-err g c =
    search (rules, err_so, left_as, paths_of, call_leaves, string_bytes)

pub returns-in_err-replaced-clause-err : goal.returns-in_err-replaced-clause-err
returns-in_err-replaced-clause-err g c =
    search (rules, string_bytes, err_so, left_as, paths_of, left_there, calls_of)
