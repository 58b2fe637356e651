-- The set of paths has the new one if the file is added, and is as before if there was no memory for it.
use Rattle.std.proofs.Common.{rules, tests, ◌≡◌, ◌++◌, ◌∷◌, [], true, false, is_some, is_ok, sym, ap, ◌∙◌}
use Rattle.std.specs.BTreeSet.{contains, Updates}
use Rattle.tftp_play.specs.Files.{AreThePaths}
use Rattle.tftp_play.proofs.ScriptLemmas.{has_distinct_paths-pushed, paths-back, paths-push}
use Rattle.tftp_store.specs.Memory.{contents}
use Rattle.tftp_store.specs.Store.{file_at, path_cmp}
use Rattle.tftp_play.proofs.script.files.Files.add.Goals as goal

pub invariant_of-self-in-Ok : goal.invariant_of-self-in-Ok
invariant_of-self-in-Ok c =
    let files = c.args.self.now.list.items in
    let old = c.args.self.now.paths in
    let paths : AreThePaths old files = search rules in
    let updates : Updates path_cmp old c.insert.new.self c.args.path true = search rules in
    let missing : contains path_cmp old c.args.path ≡ false = search (rules, tests) in
    let pushed : c.push.new.self.items ≡ files ++ (c.args.path, c.args.bytes) ∷ [] = search rules in
    record {
      distinct =
          has_distinct_paths-pushed (is_ok c.push.result) files c.push.new.self.items (c.args.path, c.args.bytes)
          c.push.ensures.items (search rules) (sym (paths c.args.path) ∙ missing);
      indexed = λ path.
          paths-push old c.insert.new.self files (c.args.path, c.args.bytes) paths updates path
          ∙ ap (λ fs. is_some (file_at path (contents fs))) (sym pushed);
    }

pub invariant_of-self-in-Err-push : goal.invariant_of-self-in-Err-push
invariant_of-self-in-Err-push c =
    let files = c.args.self.now.list.items in
    let old = c.args.self.now.paths in
    let paths : AreThePaths old files = search rules in
    let added : Updates path_cmp old c.insert.new.self c.args.path true = search rules in
    let removed : Updates path_cmp c.insert.new.self c.remove.new.self c.args.path false = search rules in
    let missing : contains path_cmp old c.args.path ≡ false = search (rules, tests) in
    let same : c.push.new.self.items ≡ files = search rules in
    record {
      distinct =
          has_distinct_paths-pushed (is_ok c.push.result) files c.push.new.self.items (c.args.path, c.args.bytes)
          c.push.ensures.items (search rules) (sym (paths c.args.path) ∙ missing);
      indexed = λ path.
          paths-back old c.insert.new.self c.remove.new.self files c.args.path paths missing added removed path
          ∙ ap (λ fs. is_some (file_at path (contents fs))) (sym same);
    }
