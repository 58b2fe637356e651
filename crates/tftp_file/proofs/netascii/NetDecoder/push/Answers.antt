-- A piece gives the pair that it completes and then its whole pairs, or is refused.
use Rattle.std.proofs.lemmas.Grind.{common_steps}
use Rattle.std.proofs.Common.{rules, ◌≡◌, ◌++◌, ◌∷◌, [], ℕ, List, option_to_list, sym, ap, ◌∙◌, arith}
use Rattle.std.proofs.lemmas.List.{append-nil}
use Rattle.std.proofs.lemmas.Result.{err_from_is_err_and}
use Rattle.tftp_file.specs.Decoding.{held_bytes}
use Rattle.tftp_file.proofs.DecodingLemmas.{piece_taken, piece_begins, piece_wrong, decoded_once}
use Rattle.tftp_file.proofs.netascii.NetDecoder.push.Goals as goal
use Rattle.tftp_file.proofs.netascii.NetDecoder.push.Goals.{in-Some, in_default}

pub returns-in_err-held-clause-refused : goal.returns-in_err-held-clause-refused
returns-in_err-held-clause-refused c = search (rules, err_from_is_err_and, piece_wrong)

pub returns-in_err-reserve-clause-refused : goal.returns-in_err-reserve-clause-refused
returns-in_err-reserve-clause-refused c =
    let p = err_from_is_err_and c.from_residual-in_err-reserve.result c.from_residual-in_err-reserve.ensures.1 in
    let read = c.in_ok-held.ensures.ok in
    rw (p.1, p.2, ← c.self.view_is)
    (piece_begins (held_bytes c.self.inside.held) c.args.piece.now
    (option_to_list c.in_ok-first.first) c.in_ok-first.rest.now read.0
    (held_bytes c.in_ok-held.held) c.in_ok-first.ensures.ok read.1)

pub returns-clause-ok : goal.returns-clause-ok
returns-clause-ok c =
    let read = c.in_ok-held.ensures.ok in
    let wrote = c.append_host.ensures in
    let same =
    decoded_once c.in_ok-first.rest.now read.0 (held_bytes c.in_ok-held.held) wrote.0 wrote.1 read.1 wrote.2 in
    let first : c.match-first.out.items ≡ c.args.out.now.items ++ option_to_list c.in_ok-first.first =
    elim c.match-first.branch [
      | in-Some w ↦
          rw (w.out-is, w.in-Some.is) (w.push_reserved.ensures.items ∙ ap (λ (t : List ℕ). t ++ w.in-Some.byte ∷ [])
          c.in_ok-reserve.ensures.items)
      | in_default w ↦
          rw (w.out-is, w.in_default.is) (c.in_ok-reserve.ensures.items ∙ sym (append-nil c.args.out.now.items))
    ] in
    let taken = piece_taken (held_bytes c.self.inside.held) c.args.piece.now (option_to_list c.in_ok-first.first)
    c.in_ok-first.rest.now read.0 (held_bytes c.in_ok-held.held) c.in_ok-first.ensures.ok read.1 in grind (
      arith,
      common_steps,
    )
