-- The names that are paths, and the faults of the others. For `path.rt`, `check` and `names`.
use Rattle.std.proofs.Common.{◌≡◌, ◌≢◌, ℕ, ◌<◌, ◌≤◌, Bool, true, false, cond, List, [], ◌∷◌, sym, refl, ap, ◌∙◌, arith}
use Rattle.std.proofs.Common.{length, get_or, Result, Ok, Err, rules}
use Rattle.std.specs.Prelude.{◌==◌, ◌&&◌, not, nat_lt, nat_le, count_by}
use Rattle.std.specs.List.{list_all, slice_split, join_with_byte, All}
use Rattle.std.proofs.lemmas.Bool.{ltb-false, lt-ltb, le-ltb, ne_eqb}
use Rattle.std.proofs.lemmas.List.Splits.{length-slice_split, join_with_byte-slice_split, slice_split_none}
use Rattle.std.proofs.lemmas.List.Splits.{slice_split_at}
use Rattle.std.proofs.lemmas.List.Elements.{All-weaker}
use Rattle.std.proofs.lemmas.List.Sums.{AllPass-from_list_all, list_all-from_AllPass}
use Rattle.tftp_file.specs.Path.{is_segment, is_name_byte, without_slash, checked_path, path_of_name, IsPath}
use Rattle.tftp_file.specs.declared.path.PathFault.{PathFault}
use Rattle.tftp_file.specs.declared.path.PathFault.TheVariants.{Segment, Depth}

-- the cases of a segment: it is empty, begins with a dot, is too long, or depends on its bytes
pub segment_cases : (part : List ℕ) → (nat_le (length part) 64 ≡ nat_le (length part) 64)
    × (length part ≡ 0 → is_segment part ≡ false)
    × (1 ≤ length part → get_or part 0 0 ≡ 46 → is_segment part ≡ false)
    × (64 < length part → is_segment part ≡ false)
    × (1 ≤ length part → get_or part 0 0 ≢ 46 → length part ≤ 64 → is_segment part ≡ list_all is_name_byte part)
segment_cases part = search rules

module _ (path : List ℕ) (some : (length path == 0) ≡ false) (short : length path ≤ 255) where
  -- a path of too many parts is refused
  pub deep : 8 ≤ count_by (λ byte. byte == 47) path → checked_path path ≡ Err Depth
  deep many = search (rules, le-ltb, lt-ltb, length-slice_split)

  -- and one with a part that is not allowed
  pub bad_segment : count_by (λ byte. byte == 47) path < 8
      → list_all is_segment (slice_split (λ byte. byte == 47) path) ≡ false → checked_path path ≡ Err Segment
  bad_segment few bad = search (rules, le-ltb, length-slice_split)

  -- every other is a path
  pub good : count_by (λ byte. byte == 47) path < 8 → list_all is_segment (slice_split (λ byte. byte == 47) path) ≡ true
      → (checked_path path ≡ Ok path) × IsPath path
  good few all =
      let a : nat_lt 255 (length path) ≡ false = le-ltb 255 (length path) short in
      let b : nat_lt 8 (length (slice_split (λ byte. byte == 47) path)) ≡ false = search (
        rules,
        le-ltb,
        length-slice_split,
      ) in (
        rw (some, a, b, all),
        record {
          segments = slice_split (λ byte. byte == 47) path;
          joined = sym (join_with_byte-slice_split 47 path);
          allowed = AllPass-from_list_all is_segment (slice_split (λ byte. byte == 47) path) all;
          some = omega (arith, length-slice_split (λ byte. byte == 47) path);
          few = omega (arith, few, length-slice_split (λ byte. byte == 47) path);
          short = short;
        },
      )

-- a slash is not a name byte
no_slash : (byte : ℕ) → is_name_byte byte ≡ true → (byte == 47) ≡ false
no_slash byte h = search rules

both_parts : (a b : Bool) → (a && b) ≡ true → (a ≡ true) × (b ≡ true)
both_parts true b h = (refl, h)
both_parts false b h = (h, cc)

-- a segment has no slash
segment_bytes : (part : List ℕ) → is_segment part ≡ true → list_all is_name_byte part ≡ true
segment_bytes part h = search rules

segment_free : (part : List ℕ) → is_segment part ≡ true → All (λ byte. (byte == 47) ≡ false) part
segment_free part h =
    All-weaker (λ byte. is_name_byte byte ≡ true) (λ byte. (byte == 47) ≡ false) no_slash part
    (AllPass-from_list_all is_name_byte part (segment_bytes part h))

-- segments that are joined by slashes are the parts between the slashes
split_joined : (segments : List (List ℕ)) → list_all is_segment segments ≡ true → 1 ≤ length segments
    → slice_split (λ byte. byte == 47) (join_with_byte 47 segments) ≡ segments
split_joined [] h some = absurd (omega arith)
split_joined (s ∷ []) h some =
    slice_split_none (λ byte. byte == 47) s (segment_free s (both_parts (is_segment s) true h).0)
split_joined (s ∷ t ∷ ts) h some =
    let b = both_parts (is_segment s) (list_all is_segment (t ∷ ts)) h in
    slice_split_at (λ byte. byte == 47) s 47 (join_with_byte 47 (t ∷ ts)) (segment_free s b.0) refl
    ∙ ap (λ (parts : List (List ℕ)). s ∷ parts) (split_joined (t ∷ ts) b.1 (omega arith))

-- a path is not empty
not_empty : (path : List ℕ) → list_all is_segment (slice_split (λ byte. byte == 47) path) ≡ true
    → (length path == 0) ≡ false
not_empty [] h = cc
not_empty (x ∷ xs) h = ne_eqb (length (x ∷ xs)) 0 (λ e. absurd (omega (arith, e)))

-- a path passes every test
path_passes : (path : List ℕ) → IsPath path → checked_path path ≡ Ok path
path_passes path p = search (rules, list_all-from_AllPass, split_joined, length-slice_split, good, not_empty) steps
    1000000

-- a test that was passed
passed : (b : Bool) (fault : PathFault) (rest : Result (List ℕ) PathFault) (path : List ℕ)
    → cond b (Err fault) rest ≡ Ok path → (b ≡ false) × (rest ≡ Ok path)
passed true fault rest path h = cc
passed false fault rest path h = (refl, h)

negated : (b : Bool) → not b ≡ false → b ≡ true
negated true h = refl
negated false h = cc

-- a name that passes every test is a path
passes_path : (path answer : List ℕ) → checked_path path ≡ Ok answer → IsPath answer × (path ≡ answer)
passes_path path answer h = search (rules, passed, ltb-false, length-slice_split, good, negated)

-- the name of a path is that path, with or without a slash before it
pub path_from_name : (name path : List ℕ) → path_of_name name ≡ Ok path → IsPath path × (without_slash name ≡ path)
path_from_name name path h = passes_path (without_slash name) path h

-- and conversely
pub name_from_path : (name path : List ℕ) → IsPath path × (without_slash name ≡ path) → path_of_name name ≡ Ok path
name_from_path name path h = ap checked_path h.1 ∙ path_passes path h.0
