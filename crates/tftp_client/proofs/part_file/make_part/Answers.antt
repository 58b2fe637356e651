-- Nothing has its path but it.
use Rattle.tftp_client.proofs.Common.{ℕ, List, ◌∷◌, Ok, ap, ◌∙◌, made_when, Made}
use Rattle.tftp_client.proofs.StillThere.{just_made}
use Rattle.tftp_client.proofs.part_file.make_part.Goals as goal

pub returns-clause-still : goal.returns-clause-still
returns-clause-still g c =
    let before = g.D.Looks.log c.remove.new.self in
    ∣ just_made _ _ _ _ (c.in_ok-file.ensures.noted ∙ ap (λ (path : List ℕ). Made path (Ok tt) ∷ before)
    c.as_str-3.ensures.value) (c.keep_permissions.ensures.content.making ∙ ((λ k. made_when ((c.new-written.ensures.file
    k).trace.events)) ∙ ap made_when c.in_ok-file.ensures.file)) ∣₁
