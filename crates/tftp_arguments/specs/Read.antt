-- What a program reads of the words of its command line (own).
use Rattle.std.specs.Prelude.{ℕ, ◌≡◌, ◌<◌, ◌^◌, Bool, true, false, if◌then◌else◌}
use Rattle.std.specs.Prelude.{List, codes, Option, Some, None}
use Rattle.std.specs.Str.Parse.{IsNumeral, digits_value, without_leading_plus}
use Rattle.clap.specs.Matches.{first_value, found_of, one_text}
use Rattle.clap.specs.Walk.{Row, first_of, one_of}
use Rattle.clap.specs.declared.parser.matches.ArgMatches.{ArgMatches}

-- what was read of an option
abbrev pub value_text : ArgMatches → List ℕ → Option (List ℕ)
value_text matches id = one_text (found_of matches) id

-- what was read of each argument: its word, and the text of its flag or number
pub record ReadWords : Type 0 where
  pub word : List ℕ → Option (List ℕ)
  pub text : List ℕ → Option (List ℕ)

-- what was read of the matches
abbrev pub read_of : ArgMatches → ReadWords
read_of matches = record { word = first_value (found_of matches); text = value_text matches }

-- what was read of the rows of a parse
abbrev pub read_in : List Row → ReadWords
read_in rows = record { word = λ id. first_of id rows; text = λ id. one_of id rows }

-- a flag that is read so: it is not set without the option
pub record IsFlag (text : Option (List ℕ)) (is_set : Bool) : Type 0 where
  pub absent : text ≡ None → is_set ≡ false
  pub yes : text ≡ Some (codes "true") → is_set ≡ true
  pub no : text ≡ Some (codes "false") → is_set ≡ false

-- one of two values, as a flag is set or not
abbrev pub IsChosen : {A : Type 0} → Option (List ℕ) → A → A → A → Type 0
IsChosen text set unset value =
    (is_set : Bool) × IsFlag text is_set × (value ≡ (if is_set then set else unset))

-- a number of so many bits that is read so: an absent option has none
abbrev pub IsNumber : ℕ → Option (List ℕ) → Option ℕ → Type 0
IsNumber bits None number = number ≡ None
IsNumber bits (Some text) (Some number) = number ≡ digits_value 10 (without_leading_plus text)
IsNumber bits (Some text) None =
    (IsNumeral 10 (without_leading_plus text)
    × (digits_value 10 (without_leading_plus text) < 2 ^ bits)) → ⊥
