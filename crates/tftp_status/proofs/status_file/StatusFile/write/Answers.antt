use Rattle.std.proofs.Common.{◌∙◌, ◌∷◌, ℕ, List, ap}
use Rattle.std.specs.String.{string_bytes}
use Rattle.tftp_status.specs.StatusEvent.StatusEvent.{Handed}
use Rattle.tftp_status.specs.StatusFile.{Status}
use Rattle.tftp_status.specs.StatusText.{status_text}
use Rattle.tftp_status.proofs.Keeping.{keeps_handed}
use Rattle.tftp_status.proofs.status_file.StatusFile.write.Goals as goal

pub invariant_of-self : goal.invariant_of-self
invariant_of-self g c =
    let self = c.self.inside in
    let status : Status = record {
      file = string_bytes self.file;
      draft = string_bytes self.draft;
      counts = self.counts;
      datagrams = self.datagrams;
      events = self.trace.events;
      log = g.D.Looks.log self.disk;
    } in
    let files = rw (c.as_str-file.ensures.value, c.as_str-draft.ensures.value) at c.hand.ensures.keeps in
    let renamed = rw (c.as_str-2.ensures.value) at c.in-Ok-hand.ensures.ok in
    rw (c.note.ensures, c.as_str-in-Ok-hand.ensures.value)
    (keeps_handed status c.args.facts c.as_str.result.now (string_bytes c.in-Ok.text)
    (g.D.Looks.log c.hand.new.disk) c.self.invariant c.as_str.ensures.comments c.in-Ok.ensures.ok files
    renamed)

pub returns-in-Ok-hand-clause-keeps : goal.returns-in-Ok-hand-clause-keeps
returns-in-Ok-hand-clause-keeps g c =
    let self = c.self.inside in
    let status : Status = record {
      file = string_bytes self.file;
      draft = string_bytes self.draft;
      counts = self.counts;
      datagrams = self.datagrams;
      events = self.trace.events;
      log = g.D.Looks.log self.disk;
    } in
    let files = rw (c.as_str-file.ensures.value, c.as_str-draft.ensures.value) at c.hand.ensures.keeps in
    let renamed = rw (c.as_str-2.ensures.value) at c.in-Ok-hand.ensures.ok in
    rw (c.note.ensures, c.as_str-in-Ok-hand.ensures.value)
    (keeps_handed status c.args.facts c.as_str.result.now (string_bytes c.in-Ok.text)
    (g.D.Looks.log c.hand.new.disk) c.self.invariant c.as_str.ensures.comments c.in-Ok.ensures.ok files
    renamed)

pub returns-in-Ok-hand-clause-ok : goal.returns-in-Ok-hand-clause-ok
returns-in-Ok-hand-clause-ok g c =
    let self = c.self.inside in
    rw (← c.self.view_is)
    (c.note.ensures
    ∙ ap (λ (text : List ℕ). Handed text ∷ self.trace.events)
    (c.as_str-in-Ok-hand.ensures.value ∙ c.in-Ok.ensures.ok
    ∙ ap (λ (lines : List ℕ). status_text self.counts self.datagrams c.args.facts lines)
    c.as_str.ensures.text))
