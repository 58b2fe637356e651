-- A piece is decoded, or is refused.
use Rattle.std.proofs.Common.{◌++◌, option_to_list}
use Rattle.std.proofs.lemmas.Result.{err_from_is_err_and}
use Rattle.tftp_file.specs.Decoding.{held_bytes}
use Rattle.tftp_file.proofs.DecodingLemmas.{piece_taken, wrong_after}
use Rattle.tftp_file.proofs.netascii.NetDecoder.after.Goals as goal

pub returns-in_err-held-clause-refused : goal.returns-in_err-held-clause-refused
returns-in_err-held-clause-refused c =
    let p = err_from_is_err_and c.from_residual-in_err-held.result c.from_residual-in_err-held.ensures.1 in
    rw (p.1, p.2, ← c.self.view_is, c.in_ok-text.ensures.ok)
    (wrong_after (option_to_list
    c.in_ok-text.field-0-0) c.in_ok-text.text.now c.in_err-held.field-0.0 c.in_err-held.ensures.wrong)

pub returns-clause-ok : goal.returns-clause-ok
returns-clause-ok c =
    let read = c.in_ok-held.ensures.ok in (
      option_to_list c.in_ok-text.field-0-0 ++ read.0,
      rw (← c.self.view_is)
          (piece_taken (held_bytes c.self.inside.held) c.args.piece.now
          (option_to_list c.in_ok-text.field-0-0) c.in_ok-text.text.now read.0
          (held_bytes c.in_ok-held.held) c.in_ok-text.ensures.ok read.1),
    )
