-- The bytes that a netascii decoder decodes from the pieces of a text, and its faults (RFC 764).
use Rattle.std.specs.Prelude.{◌≡◌, refl, ◌≢◌, ℕ, ◌+◌, ◌<◌, ◌≤◌, ◌⊎◌, List, [], ◌∷◌, ◌++◌, length}
use Rattle.std.specs.List.{concat}
use Rattle.tftp_file.specs.Netascii.{netascii_text}
use Rattle.tftp_file.specs.declared.netascii.HeldText.{HeldText}
use Rattle.tftp_file.specs.declared.netascii.HeldText.TheVariants.{Nothing, CarriageReturn}
use Rattle.tftp_file.specs.declared.netascii.NetFault.{NetFault}
use Rattle.tftp_file.specs.declared.netascii.NetFault.TheVariants.{LoneCr, LoneLf, EndsInCr, Memory}

-- the number of a netascii fault
abbrev pub net_fault_number : NetFault → ℕ
net_fault_number LoneCr = 1
net_fault_number LoneLf = 2
net_fault_number EndsInCr = 3
net_fault_number Memory = 4

-- the wire bytes that a decoder holds back between two pieces
abbrev pub held_bytes : HeldText → List ℕ
held_bytes Nothing = []
held_bytes CarriageReturn = 13 ∷ []

-- the state with these bytes held back
abbrev pub held_of : List ℕ → HeldText
held_of [] = Nothing
held_of (b ∷ bytes) = CarriageReturn

pub held_again : (held : HeldText) → held_of (held_bytes held) ≡ held
held_again Nothing = refl
held_again CarriageReturn = refl

-- nothing is held back, or the CR that begins a pair
abbrev pub IsHeldBack : List ℕ → Type 0
IsHeldBack held = (held ≡ []) ⊎ (held ≡ 13 ∷ [])

-- the bytes held back before a piece, and the piece, are the wire text of the host bytes and the
-- bytes held back after it
abbrev pub DecodesPiece : List ℕ → List ℕ → List ℕ → List ℕ → Type 0
DecodesPiece held piece bytes after =
    IsHeldBack after × (held ++ piece ≡ netascii_text bytes ++ after)

-- the wire text of some host bytes, and at most a CR
abbrev pub BeginsWireText : List ℕ → Type 0
BeginsWireText text = (bytes : List ℕ) × (after : List ℕ) × DecodesPiece [] text bytes after

-- the wire text of some host bytes, then a CR, and then, at this offset, a byte that is neither LF
-- nor NUL
pub record LoneCrAt (text : List ℕ) (at : ℕ) : Type 0 where
  pub bytes : List ℕ
  pub byte : ℕ
  pub rest : List ℕ
  pub no_lf : byte ≢ 10
  pub no_nul : byte ≢ 0
  pub split : text ≡ netascii_text bytes ++ (13 ∷ byte ∷ rest)
  pub offset : at ≡ length (netascii_text bytes) + 1

-- the wire text of some host bytes, and then, at this offset, an LF
pub record LoneLfAt (text : List ℕ) (at : ℕ) : Type 0 where
  pub bytes : List ℕ
  pub rest : List ℕ
  pub split : text ≡ netascii_text bytes ++ (10 ∷ rest)
  pub offset : at ≡ length (netascii_text bytes)

-- the byte at this offset is the first that no wire text has there
abbrev pub FirstWrong : List ℕ → ℕ → NetFault → Type 0
FirstWrong text at LoneCr = LoneCrAt text at
FirstWrong text at LoneLf = LoneLfAt text at
FirstWrong text at EndsInCr = ⊥
FirstWrong text at Memory = ⊥

-- the text has a first wrong byte
abbrev pub IsWrong : List ℕ → NetFault → Type 0
IsWrong text fault = (at : ℕ) × FirstWrong text at fault

-- the fault of a push: the first wrong byte, or out of memory for a text without one
abbrev pub Refuses : List ℕ → NetFault → Type 0
Refuses text LoneCr = IsWrong text LoneCr
Refuses text LoneLf = IsWrong text LoneLf
Refuses text EndsInCr = ⊥
Refuses text Memory = BeginsWireText text

-- the pieces are decoded in order to the host bytes, with the bytes held back after them
abbrev pub TakesAll : List ℕ → List (List ℕ) → List ℕ → List ℕ → Type 0
TakesAll held [] bytes after = (bytes ≡ []) × (after ≡ held)
TakesAll held (piece ∷ pieces) bytes after = (first : List ℕ) × (between : List ℕ) × (rest : List ℕ)
    × DecodesPiece held piece first between × TakesAll between pieces rest after
    × (bytes ≡ first ++ rest)

-- the pieces before one are decoded, and that one, which has this offset of the whole, is refused
pub record RefusesAt (held : List ℕ) (pieces : List (List ℕ)) (at : ℕ)
    (fault : NetFault) : Type 0 where
  pub before : List (List ℕ)
  pub piece : List ℕ
  pub following : List (List ℕ)
  pub given : List ℕ
  pub between : List ℕ
  pub cut : pieces ≡ before ++ piece ∷ following
  pub taken : TakesAll held before given between
  pub wrong : IsWrong (between ++ piece) fault
  pub begins : length held + length (concat before) ≤ at
  pub ends : at < length held + length (concat before) + length piece
