-- Options: pairs of a name and a value (RFC 2347, "Packet Formats").
use Rattle.std.specs.Prelude.{ℕ, ◌≡◌, ◌≢◌, List, [], ◌∷◌, ◌++◌}
use Rattle.std.specs.List.{AllByRecursion, flat_map}
use Rattle.tftp_wire.specs.declared.options.RawOption.{RawOption}
use Rattle.tftp_wire.specs.Texts.{IsText, zero_ended, texts}

-- the name is not empty, and neither text contains a zero byte
pub record IsOption (o : RawOption) : Type 0 where
  pub named : o.name ≢ []
  pub name : IsText o.name
  pub value : IsText o.value

-- an option as bytes
abbrev pub option_bytes : RawOption → List ℕ
option_bytes o = zero_ended o.name ++ zero_ended o.value

-- options as bytes, in order
abbrev pub options_bytes : List RawOption → List ℕ
options_bytes os = flat_map option_bytes os

-- the texts two by two, as names and values
abbrev pub paired : List (List ℕ) → List RawOption
paired [] = []
paired (name ∷ []) = []
paired (name ∷ value ∷ others) = record { name = name; value = value } ∷ paired others

-- the options in these bytes
abbrev pub options_in : List ℕ → List RawOption
options_in bytes = paired (texts bytes)

-- the bytes are options and nothing else
pub record AreOptions (bytes : List ℕ) : Type 0 where
  pub whole : options_bytes (options_in bytes) ≡ bytes
  pub each : AllByRecursion IsOption (options_in bytes)
