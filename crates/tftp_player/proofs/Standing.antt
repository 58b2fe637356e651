-- An end after a turn, in the world: open, or closed with its record. For ten other files.
use Rattle.tftp_player.proofs.Common.{◌≡◌, ℕ, true, false, List, set, Option, Some, None, refl, sym, ap, ◌∙◌, subst}
use Rattle.tftp_player.proofs.Common.{inl, inr, rules, is_some, slice_get, Contains, true≢false, cases_Bool, wire_text}
use Rattle.tftp_player.proofs.Common.{Outcome, Phase, is_sender, is_client, is_complete, outcome_of, OpenEnd, two_hosts}
use Rattle.tftp_player.proofs.Common.{Message, Rule, EndView, IsShownWithin, WorldState, WorldEnd, Open_end, Closed_end}
use Rattle.tftp_player.proofs.Common.{end_address, datagram, closed_end, by_outcome, standing, view_of_end, file_at}
use Rattle.tftp_player.proofs.Common.{HasAsker, IsKeptIn, with_phase, open_view, EndKept}
use Rattle.tftp_rules.specs.OpenEnds.{has_failed}
use Rattle.tftp_rules.proofs.Refines.{shown_forgets}
use Rattle.tftp_rules.specs.Shows.{IsInService}
use Rattle.tftp_player.specs.World.{end_request}

-- an end in the world is open or closed
pub stands_as : {A : Type 0} (f : WorldEnd → A) (a : A) (x : OpenEnd) → f (Open_end x) ≡ a →
    f (Closed_end (closed_end x)) ≡ a → f (standing x) ≡ a
stands_as {A = A} f a x open_now closed_now = search rules

-- its view is the same, except for the request, which a closed end does not keep
abbrev pub IsViewedAs : OpenEnd → WorldEnd → Type 0
IsViewedAs x y = view_of_end y ≡ record (open_view x) { request = end_request y }

view_in : (phase : Phase) (x : OpenEnd) → IsViewedAs (with_phase phase x) (standing (with_phase phase x))
view_in phase x = search rules

-- an end is viewed as itself
pub standing_view : (x : OpenEnd) → IsViewedAs x (standing x)
standing_view x = view_in x.state.position.phase x

-- what a turn has closed is over
over_in : (phase : Phase) → is_some (outcome_of phase) ≡ true → is_complete phase ≡ false → has_failed phase ≡ true
over_in phase closed d = search rules

-- an end with an outcome is not in service
pub closed_over : (x : OpenEnd) → is_some (outcome_of x.state.position.phase) ≡ true → IsInService (open_view x) → ⊥
closed_over x closed busy = true≢false (sym (over_in x.state.position.phase closed busy.1) ∙ busy.2)

-- its address stays
pub standing_address : (x : OpenEnd) → end_address (standing x) ≡ x.address
standing_address x = stands_as end_address x.address x refl refl

-- without an outcome there is none to find
pub no_outcome : (o : Option Outcome) → is_some o ≡ false → o ≡ None
no_outcome None e = refl
no_outcome (Some outcome) e = absurd (true≢false e)

-- an open end is unchanged
pub standing_open : (x : OpenEnd) → is_some (outcome_of x.state.position.phase) ≡ false → standing x ≡ Open_end x
standing_open x e = ap (λ (o : Option Outcome). by_outcome o x) (no_outcome (outcome_of x.state.position.phase) e)

-- an end without an outcome is viewed as open
pub open_is : (x : OpenEnd) → is_some (outcome_of x.state.position.phase) ≡ false →
    view_of_end (Open_end x) ≡ open_view x
open_is x e = search rules

-- a closed one has its record
pub standing_ended : (x : OpenEnd) → is_some (outcome_of x.state.position.phase) ≡ true →
    standing x ≡ Closed_end (closed_end x)
standing_ended x e = search rules

-- and so it is shown: a closed one without its request
pub standing_shown :
    (first : List Rule) (views : List EndView) (messages : List Message) (k : ℕ) (d : EndView) (x : OpenEnd) →
    slice_get views k ≡ Some d →
    IsShownWithin two_hosts 3 first (set views k (open_view x)) messages →
    IsShownWithin two_hosts 3 first (set views k (view_of_end (standing x))) messages
standing_shown first views messages k d x at shown = elim (cases_Bool (is_some (outcome_of x.state.position.phase))) [
  | inl closed ↦
      shown_forgets two_hosts 3 first views messages k d (open_view x) (view_of_end (standing x)) at
      (standing_view x ∙ ap (λ (e : WorldEnd). record (open_view x) { request = end_request e }) (standing_ended x closed))
      (closed_over x closed) shown
  | inr open_now ↦
      subst (λ (v : EndView). IsShownWithin two_hosts 3 first (set views k v) messages)
      (sym (ap view_of_end (standing_open x open_now) ∙ open_is x open_now)) shown
]

-- a closed end has the same peer, and its path
ended_asked : (w : WorldState) (x : OpenEnd) → HasAsker w (Open_end x) → HasAsker w (Closed_end (closed_end x))
ended_asked w x h = search rules

-- and it is kept in its world
pub standing_kept : (w : WorldState) (x : OpenEnd) → EndKept two_hosts x →
    Contains w.sent (datagram x.address x.state.position.last_sent_to x.state.position.last_sent) →
    (w.overwrite ≡ false → is_client x.state.role.side ≡ false → is_sender x.state.role.side ≡ false →
    is_complete x.state.position.phase ≡ true → file_at w.files x.path ≡ Some x.stored) →
    x.text ≡ wire_text x.state.role.mode x.file →
    (is_client x.state.role.side ≡ false → HasAsker w (Open_end x)) →
    (w.overwrite ≡ false → is_client x.state.role.side ≡ false → is_sender x.state.role.side ≡ true →
    file_at w.files x.path ≡ Some x.file) → IsKeptIn w (standing x)
standing_kept w x kept last_sent stored text asked sends = by_case (outcome_of x.state.position.phase) refl where
  by_case : (o : Option Outcome) → outcome_of x.state.position.phase ≡ o → IsKeptIn w (by_outcome o x)
  by_case None e =
      record {
        stands = record { still = e; kept = kept; last_sent = last_sent };
        asked = asked;
        sends = sends;
        stored = stored;
        text = text;
      }
  by_case (Some outcome) e =
      record {
        stands = kept.committed;
        asked = λ server. ended_asked w x (asked server);
        sends = sends;
        stored = stored;
        text = text;
      }
