-- A request that repeats that of no open transfer is answered by no end that is shown. For four other files.
use Rattle.tftp_player.proofs.Common.{◌≡◌, ℕ, zero, suc, Bool, false, List, [], ◌∷◌, map, Option, Some, None, refl, sym}
use Rattle.tftp_player.proofs.Common.{◌∙◌, subst, inl, inr, rules, option_map, slice_get, true≢false, same_Some, Packet}
use Rattle.tftp_player.proofs.Common.{Endpoint, EndView, IsRepeated, Repeats, AnyRepeats, WorldEnd, view_of_end}
use Rattle.tftp_player.proofs.Common.{slice_get-map}
use Rattle.tftp_rules.specs.Shows.{IsAnswering, NoneAnswers}

-- an end at an index is one of them
pub any_at : (from : Endpoint) (packet : Packet) (ends : List WorldEnd) (k : ℕ) (x : WorldEnd) →
    slice_get ends k ≡ Some x → Repeats from packet x → AnyRepeats from packet ends
any_at from packet [] k x e r = absurd (let f : None ≡ Some x = e in cc)
any_at from packet (y ∷ ends) zero x e r = inl (subst (Repeats from packet) (sym (same_Some y x e)) r)
any_at from packet (y ∷ ends) (suc k) x e r = inr (any_at from packet ends k x e r)

-- who answers a request is repeated by it
answers_repeat : (from : Endpoint) (packet : Packet) (x : WorldEnd) → IsAnswering (view_of_end x) from packet →
    Repeats from packet x
answers_repeat from packet x a = search rules

-- no end that is shown answers it
pub none_answers :
    (from : Endpoint) (packet : Packet) (ends : List WorldEnd) (repeated : Bool) (decoded : Option Packet) →
    IsRepeated repeated from decoded ends →
    decoded ≡ Some packet → repeated ≡ false → NoneAnswers (map view_of_end ends) from packet
none_answers from packet ends repeated decoded same is new k e at a =
    by_end (slice_get ends k) refl (sym (slice_get-map view_of_end ends k) ∙ at) where
      again : IsRepeated repeated from (Some packet) ends
      again = subst (λ (d : Option Packet). IsRepeated repeated from d ends) is same

      by_end : (o : Option WorldEnd) → slice_get ends k ≡ o → option_map view_of_end o ≡ Some e → ⊥
      by_end None there h = absurd (let f : None ≡ Some e = h in cc)
      by_end (Some x) there h =
          let r =
          answers_repeat from packet x
          (subst (λ (v : EndView). IsAnswering v from packet) (sym (same_Some (view_of_end x) e h)) a) in
          true≢false (sym (again.1 (any_at from packet ends k x there r)) ∙ new)
