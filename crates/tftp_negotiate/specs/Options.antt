-- The names and values of options (RFC 2347, "Packet Formats").
use Rattle.std.specs.Prelude.{ℕ, ◌^◌, Bool, ◌&&◌, List, Option, Some, None, codes, decimal}
use Rattle.std.specs.Prelude.{bytes_eq, nat_lt, if◌then◌else◌}
use Rattle.std.specs.Str.{str_to_ascii_lowercase}
use Rattle.std.specs.Str.Parse.{digits_value}
use Rattle.tftp_negotiate.specs.declared.name.Name.{Name}
use Rattle.tftp_negotiate.specs.declared.name.Name.TheVariants.{Blksize, Timeout, Tsize}

-- the name in lower case
abbrev pub name_text : Name → List ℕ
name_text Blksize = codes "blksize"
name_text Timeout = codes "timeout"
name_text Tsize = codes "tsize"

-- the text is this name, in any case
abbrev pub means : List ℕ → Name → Bool
means text name = bytes_eq (str_to_ascii_lowercase text) (name_text name)

-- the known option of a name
unfoldable pub name_of : List ℕ → Option Name
name_of text = if means text Blksize then Some Blksize
    else (if means text Timeout then Some Timeout
    else (if means text Tsize then Some Tsize else None))

-- the number below 2 ^ 64 whose decimal digits are this text
unfoldable pub number_of : List ℕ → Option ℕ
number_of text = let n = digits_value 10 text in
    if bytes_eq (decimal n) text && nat_lt n (2 ^ 64) then Some n else None
