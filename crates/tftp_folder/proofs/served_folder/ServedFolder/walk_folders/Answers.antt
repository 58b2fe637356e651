-- The front of the path is as long as the root.
use Rattle.std.proofs.Common.{◌≡◌, ◌≤◌, ◌-◌, ℕ, List, length, take, drop, arith, rules}
use Rattle.std.proofs.lemmas.Grind.{common_steps}
use Rattle.std.specs.String.{string_bytes}
use Rattle.tftp_folder.specs.Inside.{IsInside}
use Rattle.tftp_folder.proofs.InsideLemmas.{front_inside, look_inside}
use Rattle.tftp_folder.proofs.LeavesLemmas.{look_more}
use Rattle.tftp_folder.proofs.served_folder.ServedFolder.walk_folders.Goals as goal

whole_range : (path : List ℕ) (end : ℕ) → take (end - 0) (drop 0 path) ≡ take end path
whole_range path end = grind (arith, common_steps)

range_inside : (root path front : List ℕ) (end : ℕ) → IsInside root path → length root ≤ end
    → front ≡ take (end - 0) (drop 0 path) → IsInside root front
range_inside root path front end inside long is = search (rules, whole_range, front_inside)

pub loop-segment-preserved : goal.loop-segment-preserved
loop-segment-preserved g c =
    let root = string_bytes c.args.self.now.root in
    let long : length root ≤ c.saturating_add-end.result = omega (arith, c.loop-segment.invariant.1) in (
      look_more _ _ _ _ _ c.loop-segment.invariant.0 c.look.ensures,
      long,
      λ inside all.
          look_inside _ _ _ _ _ c.look.ensures (range_inside _ _ _ _ inside long c.in-Some-get.ensures.cases.0)
          (c.loop-segment.invariant.2 inside all),
    )

pub returns-in-Err-clause-inside : goal.returns-in-Err-clause-inside
returns-in-Err-clause-inside g c =
    let root = string_bytes c.args.self.now.root in
    let long : length root ≤ c.saturating_add-end.result = omega (arith, c.loop-segment.invariant.1) in
    λ inside all.
    look_inside _ _ _ _ _ c.look.ensures (range_inside _ _ _ _ inside long c.in-Some-get.ensures.cases.0)
    (c.loop-segment.invariant.2 inside all)
