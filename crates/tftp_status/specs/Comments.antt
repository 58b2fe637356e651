-- The lines of the open transfers in a status file: comments, and no samples (ours).
use Rattle.std.specs.Prelude.{ℕ, ◌≡◌, ◌≢◌, List, [], ◌∷◌, ◌++◌, All}
use Rattle.tftp_sockets.specs.declared.entry.OpenTransfer.{OpenTransfer}
use Rattle.tftp_status.specs.OpenLine.{open_text}

-- a text is one line: its end (LF, 10) is the only one
pub record IsOneLine (text : List ℕ) : Type 0 where
  pub body : List ℕ
  pub is : text ≡ body ++ 10 ∷ []
  pub whole : All (λ (byte : ℕ). byte ≢ 10) body

-- the line of an open transfer, which is one line: it begins with `#` and a number
pub record IsOpenLine (line : List ℕ) : Type 0 where
  pub transfer : OpenTransfer
  pub is : line ≡ open_text transfer
  pub one : IsOneLine line

-- each line of the text is that of an open transfer
pub data AreComments : List ℕ → Type 0 where
  Nothing : AreComments []
  More : (text line : List ℕ) → AreComments text → IsOpenLine line → AreComments (text ++ line)
