-- The first path is another server's.
use Rattle.std.proofs.Common.{◌∙◌, inl}
use Rattle.std.specs.String.{string_bytes}
use Rattle.tftp_folder.proofs.MakingLemmas.{if_err, if_ok, made_more, then_calls}
use Rattle.tftp_folder.proofs.served_folder.ServedFolder.make_draft.Goals as goal

pub returns-in-Ok-None-clause-ok : goal.returns-in-Ok-None-clause-ok
returns-in-Ok-None-clause-ok g c =
    if_ok _ (λ made is. made_more _ _ _ _ _ _ _ (c.make_own.ensures.tries (string_bytes c.args.self.now.drafts)
    c.args.port (inl (c.as_str.ensures.value ∙ c.requires))) is) c.make_later.ensures.ok

pub returns-in-Ok-None-clause-err : goal.returns-in-Ok-None-clause-err
returns-in-Ok-None-clause-err g c =
    if_err _ (λ calls. then_calls _ _ _ _ _ (c.make_own.ensures.tries (string_bytes c.args.self.now.drafts) c.args.port
    (inl (c.as_str.ensures.value ∙ c.requires))) calls) c.make_later.ensures.err
