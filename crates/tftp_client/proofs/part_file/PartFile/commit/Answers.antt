-- What was handed to the file is in it when it gets its name.
use Rattle.std.proofs.Common.{rules as std_rules}
use Rattle.tftp_client.proofs.Common.{rules, ◌≡◌, List, ℕ, sym, ◌∙◌, subst, ∥∥₁_map, true≢false, handed, Paths}
use Rattle.tftp_client.proofs.Common.{WasNamed, bytes_in, paths_of}
use Rattle.tftp_client.proofs.StillThere.{err_so, left_as, on_err, same_there, still_some}
use Rattle.tftp_client.proofs.TriedOnce.{untried_left}
use Rattle.tftp_client.proofs.NamedFile.{folder_later, on_ok}
use Rattle.tftp_client.proofs.part_file.PartFile.commit.Goals as goal

pub invariant_of-self-2-clause-folder_fits : goal.invariant_of-self-2-clause-folder_fits
invariant_of-self-2-clause-folder_fits g c =
    let made = c.create_once.new.self in
    folder_later _ _ _ _ c.give_name.ensures.keeps made.folder_fits

pub invariant_of-self-2-clause-still : goal.invariant_of-self-2-clause-still
invariant_of-self-2-clause-still g c off = absurd (true≢false off)

pub returns-clause-place : goal.returns-clause-place
returns-clause-place g c = search std_rules

pub returns-clause-left : goal.returns-clause-left
returns-clause-left g c = on_err c.give_name.result (λ left untried. ∥∥₁_map left (λ at. at)) c.give_name.ensures.err

pub returns-in_err-create_once-clause-left : goal.returns-in_err-create_once-clause-left
returns-in_err-create_once-clause-left g c =
    err_so c.from_residual.result
    (λ untried. untried_left c.create_once.new.self (c.create_once.ensures.tried ∙ untried))

pub returns-in_err-finish-clause-left : goal.returns-in_err-finish-clause-left
returns-in_err-finish-clause-left g c =
    let made = c.create_once.new.self in
    err_so c.from_residual-in_err-finish.result (λ untried. left_as (paths_of made.names made.existing)
    c.finish.new.self (g.D.Looks.log made.disk) (same_there _ _ _ _ (sym c.finish.ensures.same.making) (still_some _ _ _
    _ c.in-Some.is (made.still (c.create_once.ensures.tried ∙ untried)))))

pub returns-clause-named : goal.returns-clause-named
returns-clause-named g c =
    let old = c.args.self.now in
    let made = c.create_once.new.self in
    let after = g.D.Looks.log c.give_name.new.disk in
    let is : paths_of made.names made.existing ≡ paths_of old.names old.existing = search std_rules in
    let content : handed c.finish.new.self.writer ≡ bytes_in old.written = search rules in
    on_ok c.give_name.result (λ named. ∥∥₁_map named (λ named.
    subst (λ (paths : Paths). WasNamed paths (bytes_in old.written) after) is (subst (λ (bytes : List ℕ). WasNamed
    (paths_of made.names made.existing) bytes after) content named))) c.give_name.ensures.ok
