-- One more line follows those before it.
use Rattle.std.proofs.Common.{◌≡◌, ◌∙◌, ap, subst, ◌++◌, ◌∷◌, [], arith}
use Rattle.std.specs.Prelude.{IfSome}
use Rattle.std.specs.String.{string_bytes}
use Rattle.std.specs.Io.BufRead.{strip_last, take_through}
use Rattle.hex.specs.Hex.{decode_of}
use Rattle.tftp_show.specs.Show.{line_shown, spells_packet}
use Rattle.tftp_show.proofs.ShowLemmas.{goes_on}
use Rattle.tftp_show.proofs.show.show_lines.Goals as goal

pub loop-preserved : goal.loop-preserved
loop-preserved g c =
    let left = g.R.Read.remaining c.loop.input in
    let read = c.read_line.new.line.items in
    let digits =
    c.without_return-digits.ensures ∙ ap (strip_last 13) c.without_end.ensures
    ∙ ap (λ l. strip_last 13 (strip_last 10 l)) c.as_slice.ensures.value in
    let shown =
    c.in_ok-packets.ensures.appended ∙ ap (λ s. s ++ line_shown c.without_return-digits.result.now)
    c.clear-in-loop.ensures.bytes ∙ ap line_shown digits in
    goes_on (g.R.Read.remaining c.args.input.now) left (g.R.Read.remaining c.read_line.new.input)
    (g.W.Write.contents c.args.output.now) (g.W.Write.contents c.loop.output) (g.W.Write.contents c.write_all.new.self)
    c.loop.packets c.in_ok-packets.field-0 read c.as_bytes.result.now
    c.loop.invariant
    c.in_ok-read_line.ensures.rest
    (subst (λ before. IfSome left (λ xs. read ≡ before ++ take_through 10 xs)) c.clear.ensures.items
    c.in_ok-read_line.ensures.bytes)
    (omega (arith, c.in_ok-read_line.ensures.ok, c.clear.ensures.len, c.if-branch-eq0.false, c.read_line.new.line.ok.0))
    (c.in_ok-packets.ensures.is_packet ∙ ap (λ d. spells_packet (decode_of d)) digits)
    (c.as_bytes.ensures.value ∙ c.in_ok-push.ensures.bytes ∙ ap (λ e. string_bytes c.show_line.new.text ++ e)
    (c.in_ok-push.ensures.ascii (omega arith)) ∙ ap (λ s. s ++ 10 ∷ []) shown)
    c.in_ok-write_all.ensures.bytes
