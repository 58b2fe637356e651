-- How many processors a process may run on, by the texts in which the system says it (own).
use Rattle.std.specs.Prelude.{ℕ, ◌+◌, ◌-◌, ◌==◌, ◌&&◌, ◌||◌, Bool, if◌then◌else◌, max, min}
use Rattle.std.specs.Prelude.{nat_eq, nat_lt, List, [], ◌∷◌, codes, count_ones, drop, length}
use Rattle.std.specs.Prelude.{sum_by, Option, Some, None, unwrap_or}
use Rattle.std.specs.Char.{digit_value}
use Rattle.std.specs.List.{after_first, before_first, list_all, position_or_len, slice_split}
use Rattle.std.specs.List.{starts_with}
use Rattle.std.specs.Str.{bytes_eq, trim}
use Rattle.std.specs.Str.Lines.{lines}
use Rattle.std.specs.Str.Parse.{digits_value, without_leading_plus}

-- ---- the mask in `/proc/self/status` (proc(5))
-- the ones of a hexadecimal digit; another byte has none
abbrev pub ones_of : ℕ → ℕ
ones_of byte = if nat_lt (digit_value byte) 16 then count_ones (digit_value byte) else 0

-- the processors in a mask: the ones of its digits, 255 at most
abbrev pub in_mask : List ℕ → ℕ
in_mask mask = min (sum_by ones_of mask) 255

-- what is behind the name of the mask in a line that begins with it
abbrev pub mask_behind : List ℕ → Option (List ℕ)
mask_behind line =
    if starts_with nat_eq line (codes "Cpus_allowed:") then Some (drop 13 line) else None

-- the mask in the first of these lines that has one; else nothing
abbrev pub mask_in : List (List ℕ) → List ℕ
mask_in [] = []
mask_in (line ∷ rest) = unwrap_or (mask_behind line) (mask_in rest)

-- the mask in a text
abbrev pub mask_of : List ℕ → List ℕ
mask_of status = mask_in (lines status)

-- ---- the list in `/sys/devices/system/cpu/online` (sysfs-devices-system-cpu)
-- the digits are those of a number below 65536
abbrev pub is_short : List ℕ → Bool
is_short digits =
    nat_lt 0 (length digits) && list_all (λ digit. nat_lt (digit_value digit) 10) digits
    && nat_lt (digits_value 10 digits) 65536

-- the number that a text is, if it is one below 65536
abbrev pub number_in : List ℕ → Option ℕ
number_in text =
    if is_short (without_leading_plus text) then Some (digits_value 10 (without_leading_plus text))
    else None

-- how many there are from the first to the last, 255 at most
abbrev pub size_of : Option ℕ → Option ℕ → ℕ
size_of None last = 0
size_of (Some first) None = 0
size_of (Some first) (Some last) = if nat_lt last first then 0 else min ((last - first) + 1) 255

-- the processors in a range: from the number before its first dash (45) to the one behind it; a
-- number alone is one
abbrev pub in_range : List ℕ → ℕ
in_range range =
    if nat_lt (position_or_len (λ byte. byte == 45) range) (length range)
    then size_of (number_in (before_first (λ byte. byte == 45) range))
    (number_in (after_first (λ byte. byte == 45) range))
    else size_of (number_in range) (number_in range)

-- the processors in a list: those of its ranges, with commas (44) between them, 255 at most
abbrev pub in_list : List ℕ → ℕ
in_list list = min (sum_by in_range (slice_split (λ byte. byte == 44) (trim list))) 255

-- ---- both
-- the processors of the mask, or 1 without its text
abbrev pub allowed_in : Option (List ℕ) → ℕ
allowed_in None = 1
allowed_in (Some status) = in_mask (mask_of status)

-- at most as many as are online, as far as a text says that, and 1 at least
abbrev pub processors_in : Option (List ℕ) → Option (List ℕ) → ℕ
processors_in status None = max (allowed_in status) 1
processors_in status (Some online) = max (min (allowed_in status) (in_list online)) 1

-- ---- who asks
-- a word asks for the number of processors
abbrev pub asks_for_processors : List ℕ → Bool
asks_for_processors word = bytes_eq word (codes "auto") || bytes_eq word (codes "--servers=auto")
