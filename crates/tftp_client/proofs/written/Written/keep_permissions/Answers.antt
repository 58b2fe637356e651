-- What is set are permissions alone.
use Rattle.std.proofs.Common.{rules}
use Rattle.tftp_client.proofs.Common.{◌≡◌, ℕ, List, ◌∷◌, sym, subst, ∥∥₁_map, calls_of}
use Rattle.std.proofs.lemmas.Nat.{and_le_r}
use Rattle.std.specs.List.{AllByRecursion}
use Rattle.tftp_disk.specs.DiskTrace.{modes_asked}
use Rattle.tftp_client.specs.Fetched.{ArePermissions}
use Rattle.tftp_client.specs.Written.{permissions_of}
use Rattle.tftp_client.proofs.written.Written.keep_permissions.Goals as goal

pub invariant_of-self-2-clause-plain : goal.invariant_of-self-2-clause-plain
invariant_of-self-2-clause-plain g c =
    let old = c.args.self.now in
    let wanted = permissions_of c.in-Some.replaced in
    let modes : modes_asked (calls_of c.set_mode.new.self) ≡ wanted ∷ modes_asked (calls_of old.writer) = search rules
    in
    subst (λ (modes : List ℕ). ∥ AllByRecursion ArePermissions modes ∥₁) (sym modes) (∥∥₁_map old.plain (λ all.
    (and_le_r c.in-Some.replaced.mode 511, all)))
