-- After a step of one end, an opening or a datagram, views and messages refine the machine after
-- more rules.
use Rattle.std.specs.Prelude.{◌≡◌, ℕ, false, List, [], ◌∷◌, ◌++◌, length, slice_get, slice_set}
use Rattle.std.specs.Prelude.{Some}
use Rattle.tftp_rules.specs.Machine.{Message, nobody, Network}
use Rattle.tftp_rules.specs.Rules.{Rule, actor, MayAct, packets, party_after}
use Rattle.tftp_rules.specs.Shows.{EndView, party_of, Matches, NoneAt, IsShownAt}
use Rattle.tftp_rules.specs.Shows.{IsShownWithin, ActInTurn, party_then, sent_by, OpensEnd}
use Rattle.tftp_rules.specs.Shows.{Speaks, AsksUnanswered}

module _ (network : Network) where
  -- a step of one end is some rules, if it is the result of rules of that end that may act, one
  -- after another, by the view of the end and the datagrams sent
  abbrev pub EndsGoOn : Type 0
  EndsGoOn =
      (first : List Rule) (views : List EndView) (messages : List Message) (k : ℕ) (e f : EndView)
      (rules : List Rule) →
      IsShownAt network first views messages → slice_get views k ≡ Some e → e.failed ≡ false →
      ActInTurn network rules e.address messages (party_of e) →
      f.address ≡ e.address → f.request ≡ e.request → Matches f (party_then rules (party_of e)) →
      IsShownWithin network (length rules) first (slice_set views k f)
      (messages ++ sent_by network rules (party_of e))

  -- an opening by a rule at a new endpoint is one rule, if no open end answers its request
  abbrev pub EndsOpen : Type 0
  EndsOpen =
      (first : List Rule) (views : List EndView) (messages : List Message) (f : EndView)
      (rule : Rule) →
      IsShownAt network first views messages → OpensEnd rule → MayAct network rule messages nobody →
      f.address ≡ actor rule → NoneAt views f.address →
      Matches f (party_after rule nobody) → AsksUnanswered rule f.request views →
      IsShownWithin network 1 first (views ++ f ∷ []) (messages ++ packets network rule nobody)

  -- a datagram that changes no end is one rule
  abbrev pub DatagramsAreAdded : Type 0
  DatagramsAreAdded =
      (first : List Rule) (views : List EndView) (messages : List Message) (rule : Rule) →
      IsShownAt network first views messages → Speaks rule → MayAct network rule messages nobody →
      IsShownWithin network 1 first views (messages ++ packets network rule nobody)
