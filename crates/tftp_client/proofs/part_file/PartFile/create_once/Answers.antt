-- The folder stays, and the file is made just now.
use Rattle.std.proofs.lemmas.Grind.{common_steps}
use Rattle.std.proofs.Common.{arith}
use Rattle.tftp_client.proofs.Common.{◌≡◌, false, ℕ, List, Option, Some, None, true≢false, string_bytes, DiskEvent}
use Rattle.tftp_client.proofs.Common.{Written, paths_of}
use Rattle.std.specs.Prelude.{is_some}
use Rattle.tftp_client.specs.Written.{IsStillIn}
use Rattle.tftp_client.proofs.NamedFile.{folder_later}
use Rattle.tftp_client.proofs.part_file.PartFile.create_once.Goals as goal

pub invariant_of-self-clause-folder_fits : goal.invariant_of-self-clause-folder_fits
invariant_of-self-clause-folder_fits g c =
    let self = c.args.self.now in
    folder_later _ _ _ _ c.make_part.ensures.keeps self.folder_fits

pub invariant_of-self-clause-still : goal.invariant_of-self-clause-still
invariant_of-self-clause-still g c off = c.in-Ok.ensures.still

-- none was made
none_there : {F : Type 0} (part : List ℕ) (written : Option (Written F)) (log : List DiskEvent) → is_some written ≡ false
    → ∥ IsStillIn part written log ∥₁
none_there part None log none = ∣ tt ∣₁
none_there part (Some written) log none = absurd (true≢false none)

pub invariant_of-self-in-Err-1 : goal.invariant_of-self-in-Err-1
invariant_of-self-in-Err-1 g c =
    grind (arith, common_steps, folder_later, paths_of, none_there, string_bytes)
