-- The bytes moved from the start of a text, if only its first bytes are given. For `FaultSourceSource::fill`.
use Rattle.std.proofs.Common.{◌≡◌, ℕ, ◌+◌, ◌-◌, ◌≤◌, min, List, length, take, drop, Some, arith, length-take-le, rules}
use Rattle.std.proofs.lemmas.List.{take-take, drop-take}
use Rattle.tftp_file.specs.Source.{Moved}

-- a fill within the given bytes moves the same from the first bytes as from the whole
pub moved_front : (whole after : List ℕ) (left want n k : ℕ) (old new : List ℕ) → left ≤ length whole
    → n ≡ min want left
    → Moved whole (Some after) n old new k → Moved (take left whole) (Some (take (left - k) after)) want old new k
moved_front whole after left want n k old new within least moved =
    let short = length-take-le left whole within in
    let count = moved.count in
    let fits : k ≤ left = omega arith in
    let both : k + (left - k) ≡ left = omega arith in
    let rest : after ≡ drop k whole = let e = moved.rest in cc in
    search (rules, take-take, drop-take)
