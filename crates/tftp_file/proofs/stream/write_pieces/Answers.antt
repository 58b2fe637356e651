-- One more write continues at the offset before it.
use Rattle.std.proofs.Common.{◌≡◌, ℕ, ◌-◌, List, ◌++◌, length, take, drop, arith}
use Rattle.std.proofs.lemmas.Grind.{common_steps}
use Rattle.std.proofs.KnownBytes.{Appends-trans}
use Rattle.tftp_file.proofs.stream.write_pieces.Goals as goal

-- n more bytes are written, and the rest begins after them
cut_later : (all done rest : List ℕ) (n : ℕ) → all ≡ done ++ rest
    → all ≡ (done ++ take n rest) ++ take (length rest - n) (drop n rest)
cut_later all done rest n split = grind (arith, common_steps)

pub loop-rest-preserved : goal.loop-rest-preserved
loop-rest-preserved g c =
    let (done, split, grown) = c.loop-rest.invariant in
    let rest = c.loop-rest.rest.now in
    let n = c.in-Ok.count in
    let now = Appends-trans _ _ _ _ _ grown c.in-Ok.ensures.bytes in
    (done ++ take n rest, cut_later _ done rest n split, now)
