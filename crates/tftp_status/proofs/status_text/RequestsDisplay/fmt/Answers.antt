use Rattle.std.proofs.Common.{◌≡◌, ◌∙◌, ◌+◌, ℕ, List, ◌++◌, codes, ap, rules, subst}
use Rattle.std.specs.Fmt.{HasWritten}
use Rattle.tftp_status.specs.Counts.{saturated}
use Rattle.tftp_status.specs.StatusText.{answer_text, head_text}
use Rattle.tftp_status.specs.declared.status_text.Kind.TheVariants.{Counter}
use Rattle.tftp_status.proofs.Texts.{then_text}
use Rattle.tftp_status.proofs.status_text.RequestsDisplay.fmt.Goals as goal

pub returns-clause-writes : goal.returns-clause-writes
returns-clause-writes g c plain ok =
    let all = c.args.self.now in
    let opened : c.saturating_add-all.result ≡ saturated (all.counts.reads.opened + all.counts.writes.opened) =
    search rules in
    subst (λ (bytes : List ℕ). HasWritten {W = g.row.W.Denot} g.W.Write.write_str_gives c.args.f.now bytes
    c.write.new.self)
    (ap (λ (bytes : List ℕ). head_text (codes "tftpd_requests_total") Counter
    (codes "Datagrams to the request port, by their answer.") ++ bytes)
    (then_text
    (c.answer-opened.ensures ∙ ap (λ (n : ℕ). answer_text (codes "opened") all.labels n) opened)
    (then_text c.answer-refused.ensures (then_text c.answer-busy.ensures
    (then_text c.answer-ignored.ensures c.answer-lost.ensures)))))
    (c.write.ensures.writes plain ok)
