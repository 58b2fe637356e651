-- The name of a received file is tried once: what was given then stays, and else the file is left where it was.
use Rattle.std.proofs.Common.{rules}
use Rattle.tftp_client.proofs.Common.{◌≡◌, ℕ, List, Bool, true, false, refl, sym, ap, ◌∙◌, subst, ∥∥₁_map, Paths}
use Rattle.tftp_client.proofs.Common.{WasNamed, IsLeftIn, bytes_in, paths_of}
use Rattle.std.specs.declared.io.traits.Read as read
use Rattle.std.specs.declared.io.traits.Write as write
use Rattle.std.specs.declared.io.traits.Seek as seek
use Rattle.tftp_disk.specs.declared.disk.Looks as looks
use Rattle.tftp_client.specs.declared.part_file.PartFile.{PartFile}
use Rattle.tftp_client.specs.Written.{SameIn}
use Rattle.tftp_client.proofs.StillThere.{in_left, still_left}

module _ {D F V G : Type 0} {logs : looks.Ghosts D} {writes : write.Ghosts F} {views : looks.Ghosts V}
    {reads : read.Ghosts G} {seeks : seek.Ghosts G} where
  -- the names of a file
  abbrev pub names_of : PartFile D F V G logs writes views reads seeks → Paths
  names_of part = paths_of part.names part.existing

  -- its name was tried, and given
  abbrev pub IsGiven : PartFile D F V G logs writes views reads seeks → Type 0
  IsGiven part =
      (part.is_tried ≡ true) × ∥ WasNamed (names_of part) (bytes_in part.written) (logs.log part.disk) ∥₁

  -- it is left
  abbrev pub IsLeftHere : PartFile D F V G logs writes views reads seeks → Type 0
  IsLeftHere part = ∥ IsLeftIn (names_of part) part.written (logs.log part.disk) ∥₁

  pub given_still : (old new : PartFile D F V G logs writes views reads seeks) → (old.is_tried ≡ true → new ≡ old)
      → IsGiven old → IsGiven new
  given_still old new same given = rw ((same given.0)) given

  pub untried_left : (part : PartFile D F V G logs writes views reads seeks) → part.is_tried ≡ false → IsLeftHere part
  untried_left part untried = still_left (names_of part) part.written (logs.log part.disk) (part.still untried)

  by_test : (b : Bool) (old new : PartFile D F V G logs writes views reads seeks) → old.is_tried ≡ b
      → (old.is_tried ≡ true → new ≡ old) → (old.is_tried ≡ false → IsLeftHere new) → IsLeftHere old → IsLeftHere new
  by_test b old new is same left was = search rules

  -- after a call that leaves a file whose name was tried as it was
  pub left_still : (old new : PartFile D F V G logs writes views reads seeks) → (old.is_tried ≡ true → new ≡ old)
      → (old.is_tried ≡ false → IsLeftHere new) → IsLeftHere old → IsLeftHere new
  left_still old new same left was = by_test old.is_tried old new refl same left was

  -- after an append
  pub append_left : (old new : PartFile D F V G logs writes views reads seeks) → (old.is_tried ≡ true → new ≡ old)
      → new.is_tried ≡ old.is_tried → IsLeftHere old → IsLeftHere new
  append_left old new same tried was =
      left_still old new same (λ untried. untried_left new (tried ∙ untried)) was

  -- after its buffer was written
  pub written_given : (old new : PartFile D F V G logs writes views reads seeks) → names_of new ≡ names_of old
      → bytes_in new.written ≡ bytes_in old.written → new.disk ≡ old.disk → new.is_tried ≡ old.is_tried → IsGiven old
      → IsGiven new
  written_given old new names bytes disk tried given =
      let log : logs.log new.disk ≡ logs.log old.disk = ap (λ (d : D). logs.log d) disk in (
        tried ∙ given.0,
        ∥∥₁_map given.1 (λ named. (rw (log) (subst (λ (b : List ℕ). WasNamed (names_of new) b (logs.log old.disk)) (sym
            bytes) (subst (λ (p : Paths). WasNamed p (bytes_in old.written) (logs.log old.disk)) (sym names) named)))),
      )

  pub written_left : (old new : PartFile D F V G logs writes views reads seeks) → names_of new ≡ names_of old
      → SameIn old.written new.written → new.disk ≡ old.disk → IsLeftHere old → IsLeftHere new
  written_left old new names same disk left = search (rules, in_left)
