-- `empty` owns nothing.
use Rattle.tftp_c.proofs.Common.{◌≡◌, [], ◌∷◌, refl, Val, SProp, emp, ftrue, ‵, raw, ◌⊛◌, ◌$◌, ◌∵◌, !, qed, by, keep}
use Rattle.tftp_c.proofs.Common.{split, use0, no_more, and_then, returns, enter, alloc_all, pass_all, free_all, look_at}
use Rattle.tftp_c.proofs.Common.{sets, agg, fact, fact_i, tables, null_ptr, owns, types_at, nothing, Stays, walk_of}
use Rattle.tftp_c.proofs.Common.{None, Option, proved_at, leaves}
use Rattle.std.proofs.Common.{lit<}
use types.Run.{lit}
use Rattle.tftp_c.proofs.ServerSlotValues.{lone, slot_in}
use Rattle.tftp_c.specs.contracts.server_slot.ServerSlot.empty.{ended, clauses}
use Rattle.tftp_c.specs.contracts.server_slot.ServerSlot.empty.Key.{name as #self}
use Rattle.tftp_c.proofs.server_slot.ServerSlot.empty.Statement.{statement}
use Rattle.tftp_c.proofs.server_slot.ServerSlot.empty.Code as code
use Rattle.tftp_c.specs.contracts.held_server.HeldServer as held_server

pub empty_spec : {M : Type 1} → statement M
empty_spec 𝓤 𝓛 𝓜 𝓡 wired =
    let H = 𝓛.H in let 𝓣 = tables 𝓤 H 𝓜 𝓡 𝓡.env in let c = clauses 𝓛 𝓜.mem 𝓡.returns in let hs : Stays ended.signature.params ended.kept = tt in
    proved_at 𝓛 ended hs c 𝓜 𝓡 tt #self code.function (code.unfolded 𝓤 H 𝓜 𝓡 wired) (λ z are.
    let Post : Val → SProp 𝓤 = (walk_of 𝓛 ended hs c).post z in let asked = raw ((c z.0.0 z.0.3).requires z.1) in let none : Option held_server.the_row.Denot = None in
    qed 𝓛 ((‵ ftrue ⊛ ‵ (owns (types_at ended.signature.params z.0.0) z.0.3 z.0.4)) ∷ asked ∷ []) ∵ split ! $
    enter ! 𝓣.C 𝓣.Λ code.function [] Post $ alloc_all ! (λ l. pass_all ! refl tt $
    sets ! (agg ! (and_then ! (lit ! tt) (no_more !))) refl (tt, (record { fits = lit< tt }, tt)) $
    nothing ! $ slot_in ! null_ptr none $ use0 𝓛 (raw (fact 𝓤 (none ≡ None))) (fact_i 𝓤 (none ≡ None) (emp 𝓤) refl) $ nothing ! $
    returns ! (look_at ! 0 refl) $ free_all ! refl $ keep ! (3 ∷ 0 ∷ 2 ∷ 1 ∷ []) $ by ! (leaves 𝓛 ended hs c z (lone null_ptr) (record { at = null_ptr; value = none }) tt tt)))
