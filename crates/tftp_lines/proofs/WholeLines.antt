-- A line, byte by byte and call by call. For `LineText::push_all` and `WholeLine::of`.
use Rattle.std.proofs.Common.{◌≡◌, ◌∙◌, ℕ, List, [], ◌∷◌, ◌++◌, refl, sym, ap}
use Rattle.std.specs.Prelude.{Option, Some, None, IfSome}
use Rattle.std.specs.List.{FoldsTo, concat}
use Rattle.std.specs.Fmt.{WritesText}
use Rattle.tftp_lines.specs.WholeLine.{ended, line_of, with_byte, with_bytes}

-- a byte more
pub with_more : (text bytes : List ℕ) (byte : ℕ)
    → with_bytes text (bytes ++ byte ∷ []) ≡ with_byte (with_bytes text bytes) byte
with_more text [] byte = refl
with_more text (first ∷ bytes) byte = with_more (with_byte text first) bytes byte

-- the same of the texts before and after
pub pushes_more : (bytes first middle last : List ℕ) (byte : ℕ) → middle ≡ with_bytes first bytes
    → last ≡ with_byte middle byte → last ≡ with_bytes first (bytes ++ byte ∷ [])
pushes_more bytes first middle last byte written pushed =
    pushed ∙ ap (λ (text : List ℕ). with_byte text byte) written ∙ sym (with_more first bytes byte)

-- bytes behind others
with_append : (text first second : List ℕ)
    → with_bytes text (first ++ second) ≡ with_bytes (with_bytes text first) second
with_append text [] second = refl
with_append text (byte ∷ first) second = with_append (with_byte text byte) first second

-- what one call of the writer gives
abbrev Gives : List ℕ → List ℕ → List ℕ → Type 0
Gives old text new = new ≡ with_bytes old text

with_calls : (old : List ℕ) (parts : List (List ℕ)) (new : List ℕ) → FoldsTo Gives old parts new
    → new ≡ with_bytes old (concat parts)
with_calls old [] new same = sym same
with_calls old (part ∷ parts) new calls =
    with_calls calls.0 parts new calls.2
    ∙ ap (λ (text : List ℕ). with_bytes text (concat parts)) calls.1
    ∙ sym (with_append old part (concat parts))

-- the line of a value, by what its calls gave
pub line_of_calls : (output : Option (List ℕ)) (old new line : List ℕ) → old ≡ []
    → WritesText Gives old output new → line ≡ ended new → IfSome output (λ text. line ≡ line_of text)
line_of_calls None old new line empty writes ends = tt
line_of_calls (Some text) old new line empty writes ends =
    ends
    ∙ ap ended
    (with_calls old writes.parts new writes.calls
    ∙ ap (λ (first : List ℕ). with_bytes first (concat writes.parts)) empty
    ∙ ap (λ (bytes : List ℕ). with_bytes [] bytes) writes.whole)
