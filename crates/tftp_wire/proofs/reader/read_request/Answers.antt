-- After a name and a mode without a fault, the first fault is that of the options.
use Rattle.std.proofs.Common.{arith, sym, ◌∙◌, length-drop, rules}
use Rattle.std.proofs.lemmas.Bool.{eqb-false}
use Rattle.std.proofs.lemmas.Result.{err_from_is_err_and}
use Rattle.tftp_wire.proofs.ReadingLemmas.{request_skipped, request_parts}
use Rattle.tftp_wire.proofs.reader.read_request.Goals as goal

pub returns-in_err-options : goal.returns-in_err-options
returns-in_err-options c = search (rules, err_from_is_err_and, request_skipped, eqb-false)

pub returns : goal.returns
returns c =
    let name = rw c.split_at.ensures.back at c.in_ok-name.ensures in
    let mode = sym c.mode_of.ensures ∙ c.in-Some.is in (
      request_skipped _ _ _ _ _ _ c.requires (omega arith) (length-drop 2 _) name
          (eqb-false _ _ (sym c.if-is_empty.ensures)) c.in_ok-word.ensures mode
          ∙ c.in_ok-options.ensures.0,
      request_parts _ _ _ _ _ _ _ name c.in_ok-word.ensures mode c.in_ok-options.ensures.1,
    )
