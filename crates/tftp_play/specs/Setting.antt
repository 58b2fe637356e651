-- What a setting of a script changes.
use Rattle.std.specs.Prelude.{ℕ, ◌≡◌, true, List, codes}
use Rattle.std.specs.Str.Parse.{without_leading_plus, digits_value}
use Rattle.tftp_play.specs.declared.script.setting.Setting.{Setting}
use Rattle.tftp_play.specs.declared.script.setting.Setting.TheVariants.{Retries, MaxBlock, MaxFile}
use Rattle.tftp_play.specs.declared.script.setting.Setting.TheVariants.{Cap, Overwrite}
use Rattle.tftp_server.specs.declared.config.Config.{Config}

-- the name of a setting
abbrev pub setting_word : Setting → List ℕ
setting_word Retries = codes "retries"
setting_word MaxBlock = codes "max-block"
setting_word MaxFile = codes "max-file"
setting_word Cap = codes "cap"
setting_word Overwrite = codes "overwrite"

-- a number in digits
abbrev pub Spells : List ℕ → ℕ → Type 0
Spells word number = number ≡ digits_value 10 (without_leading_plus word)

-- the configuration with one number changed
abbrev pub with_number : Setting → ℕ → Config → Config
with_number Retries number config = record config { retries = number }
with_number MaxBlock number config =
    record config { limits = record config.limits { max_block = number } }
with_number MaxFile number config =
    record config { limits = record config.limits { max_file = number } }
with_number Cap number config = record config { cap = number }
with_number Overwrite number config = config

-- a setting with the word of its value changes its own number alone, or turns overwriting on
abbrev pub IsSet : Setting → List ℕ → Config → Config → Type 0
IsSet Retries word old new = Spells word new.retries × (new ≡ with_number Retries new.retries old)
IsSet MaxBlock word old new =
    Spells word new.limits.max_block × (new ≡ with_number MaxBlock new.limits.max_block old)
IsSet MaxFile word old new =
    Spells word new.limits.max_file × (new ≡ with_number MaxFile new.limits.max_file old)
IsSet Cap word old new = Spells word new.cap × (new ≡ with_number Cap new.cap old)
IsSet Overwrite word old new =
    (word ≡ codes "yes") × (new ≡ record old { overwrite = true })
