-- What a server has printed so far, and what is passed on of it (ours).
use Rattle.std.specs.Prelude.{ℕ, ◌≡◌, ◌≢◌, ◌||◌, true, List, [], ◌∷◌, ◌++◌, All, map}
use Rattle.std.specs.declared.vec.Vec.{Vec}
use Rattle.tftp_supervisor.specs.Lines.{HasNoEnd, has_any, line_passed, passed, ended_lines}
use Rattle.tftp_supervisor.specs.Lines.{with_first}
use Rattle.tftp_supervisor.specs.declared.output.Output.{Output}

-- the lines that are kept so
abbrev pub lines_in : {A : Type 0} → List (Vec ℕ A) → List (List ℕ)
lines_in lines = map (λ line. line.items) lines

-- these bytes were taken from a server, and `out` is what is printed of them: they end some lines,
-- whole ones, and begin another; and what the first lines of servers were, before and after
pub record PassesOn (announced announces : List (List ℕ)) (bytes : List ℕ) (old new : Output)
    (out : List ℕ) : Type 0 where
  pub lines : List (List ℕ)
  pub taken : old.begun.items ++ bytes ≡ ended_lines lines ++ new.begun.items
  pub whole : All HasNoEnd lines
  pub begun : HasNoEnd new.begun.items
  pub out_is : out ≡ passed announced old.has_printed old.server lines
  pub has_printed : new.has_printed ≡ (old.has_printed || has_any lines)
  pub server : new.server ≡ old.server
  pub announces_is : announces ≡ with_first announced old.has_printed lines

-- a byte was taken from a server, and what is printed grew so: it ends the line that had begun, or
-- goes on with it
pub data Takes (announced announces : List (List ℕ)) (byte : ℕ) (old new : Output)
    (before after : List ℕ) : Type 0 where
  Begins : byte ≢ 10 → new.begun.items ≡ old.begun.items ++ byte ∷ []
      → new.has_printed ≡ old.has_printed → new.server ≡ old.server → after ≡ before
      → announces ≡ announced → Takes announced announces byte old new before after
  Ends : byte ≡ 10 → new.begun.items ≡ [] → new.has_printed ≡ true → new.server ≡ old.server
      → after ≡ before ++ line_passed announced old.has_printed old.server old.begun.items
      → announces ≡ with_first announced old.has_printed (old.begun.items ∷ [])
      → Takes announced announces byte old new before after
