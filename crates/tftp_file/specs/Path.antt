-- The path of a request's file name (our own choice: RFC 1350 leaves the names of files open).
use Rattle.std.specs.Prelude.{◌≡◌, ℕ, ◌≤◌, Bool, false, not, ◌==◌, ◌&&◌, ◌||◌, nat_le, nat_lt}
use Rattle.std.specs.Prelude.{if◌then◌else◌, List, [], ◌∷◌, length, IsOk, Result, Ok, Err, All}
use Rattle.std.specs.Prelude.{IsTrue}
use Rattle.std.specs.List.{list_all, slice_split, join_with_byte}
use Rattle.tftp_file.specs.declared.path.PathFault.{PathFault}
use Rattle.tftp_file.specs.declared.path.PathFault.TheVariants.{Empty, Segment, Depth, Length}
use Rattle.tftp_file.specs.declared.path.PathFault.TheVariants.{Memory}

-- the number of a path fault
abbrev pub path_fault_number : PathFault → ℕ
path_fault_number Empty = 1
path_fault_number Segment = 2
path_fault_number Depth = 3
path_fault_number Length = 4
path_fault_number Memory = 5

-- a letter, a digit, a dot, an underscore or a dash
abbrev pub is_name_byte : ℕ → Bool
is_name_byte byte = (nat_le 65 byte && nat_le byte 90) || (nat_le 97 byte && nat_le byte 122)
    || (nat_le 48 byte && nat_le byte 57) || byte == 46 || byte == 95 || byte == 45

-- 1 to 64 name bytes, the first of which is not a dot
abbrev pub is_segment : List ℕ → Bool
is_segment [] = false
is_segment (first ∷ rest) = not (first == 46) && nat_le (length (first ∷ rest)) 64
    && list_all is_name_byte (first ∷ rest)

-- 1 to 8 segments, joined by slashes, of 255 bytes at most
pub record IsPath (path : List ℕ) : Type 0 where
  pub segments : List (List ℕ)
  pub joined : path ≡ join_with_byte 47 segments
  pub allowed : All (λ segment. IsTrue (is_segment segment)) segments
  pub some : 1 ≤ length segments
  pub few : length segments ≤ 8
  pub short : length path ≤ 255

-- the name without one leading slash
abbrev pub without_slash : List ℕ → List ℕ
without_slash [] = []
without_slash (first ∷ rest) = if first == 47 then rest else first ∷ rest

-- the first fault of a name without its leading slash, in the order of the tests
abbrev pub checked_path : List ℕ → Result (List ℕ) PathFault
checked_path path =
    if length path == 0 then Err Empty
    else if nat_lt 255 (length path) then Err Length
    else if nat_lt 8 (length (slice_split (λ byte. byte == 47) path)) then Err Depth
    else if not (list_all is_segment (slice_split (λ byte. byte == 47) path)) then Err Segment
    else Ok path

-- the path of a name, or the first fault
abbrev pub path_of_name : List ℕ → Result (List ℕ) PathFault
path_of_name name = checked_path (without_slash name)

-- the result is that of the definition, or out of memory if that is a path
abbrev pub AnswersPath : Result (List ℕ) PathFault → Result (List ℕ) PathFault → Type 0
AnswersPath expected (Ok path) = expected ≡ Ok path
AnswersPath expected (Err Empty) = expected ≡ Err Empty
AnswersPath expected (Err Segment) = expected ≡ Err Segment
AnswersPath expected (Err Depth) = expected ≡ Err Depth
AnswersPath expected (Err Length) = expected ≡ Err Length
AnswersPath expected (Err Memory) = IsOk expected
