-- Ends that are shown are safe, as the machine is. For `texts_go_on`, `what_is_shown_is_safe` and the crates
-- tftp_player and tftp_promises.
use Rattle.tftp_rules.proofs.Common.{◌≡◌, List, refl, sym, true, [], rules, ◌∷◌, arith, ◌∙◌, ◌++◌, common_steps}
use Rattle.tftp_rules.proofs.Common.{Endpoint, Network, Message, Machine, EndView, Matches, Shows, IsShown}
use Rattle.tftp_rules.specs.Texts.{PrefixesJoin, OnlyNothingBeginsNothing}
use Rattle.tftp_rules.specs.MachineSafety.{party_view}
use Rattle.tftp_rules.specs.Safety.{IsSenderAt}
use Rattle.tftp_rules.specs.ViewSafety.{IsAmong, safety_view, IsSafeViews, PeersAtHome}
use Rattle.tftp_rules.proofs.Refines.{shown_by}
use Rattle.tftp_rules.proofs.Runs.{IsSafeMachine-holds}

-- a beginning of a beginning is a beginning
pub IsPrefixOf-trans : PrefixesJoin
IsPrefixOf-trans xs ys zs a b = grind (arith, common_steps)

-- a prefix of the empty text is empty
pub first_of_empty : OnlyNothingBeginsNothing
first_of_empty [] h = refl
first_of_empty (x ∷ xs) h = absurd (let e : x ∷ (xs ++ h.0) ≡ [] = h.1 in cc)

-- the end at this endpoint, and its party
record Found (views : List EndView) (m : Machine) (p : Endpoint) (y : EndView) : Type 0 where
  pub among : IsAmong views y
  pub address : y.address ≡ p
  pub matches : Matches y (m.party p)

found : (views : List EndView) (messages : List Message) (m : Machine) → Shows views messages m → (p : Endpoint) →
    (m.party p).is_open ≡ true → (y : EndView) × Found views m p y
found views messages m s p o = search rules

module _ (network : Network) where
  -- a receiver's peer, as it is among the views
  sender_at :
      (views : List EndView) (messages : List Message) (m : Machine) → Shows views messages m → (x : EndView)
      (p q : Endpoint) → Matches x (m.party x.address) →
      IsSenderAt (λ a. party_view a (m.party a)) (λ a. (m.party a).is_open ≡ true) p (m.party x.address).mode q →
      (y : EndView) × IsSenderAt safety_view (IsAmong views) p x.mode y × (y.text ≡ (m.party q).text)
      × (y.peer ≡ (m.party q).peer)
  sender_at views messages m s x p q a sender = search rules

  -- ends that are shown are safe
  pub shown_safe : (views : List EndView) (messages : List Message) → IsShown network views messages →
      IsSafeViews network views
  shown_safe views messages shown =
      let by = shown_by _ _ _ shown in
      let m = by.0 in
      let h = by.1 in
      let s = by.3 in
      let safe = IsSafeMachine-holds _ m h in
      let there : (x : EndView) → IsAmong views x → Matches x (m.party x.address) = λ x i. s.ends i.0 x i.1 in
      record {
        same_size = λ x y i j e f.
            let a = there x i in
            let b = there y j in
            sym a.size ∙ (safe.same_size x.address y.address a.is_open b.is_open (a.peer ∙ e) (b.peer ∙ f) ∙ b.size);
        ours = λ x p i c e.
            let a = there x i in
            safe.ours x.address p a.is_open (a.client ∙ c) (a.peer ∙ e);
        is_empty = λ x i r e.
            let a = there x i in
            let none = safe.is_empty x.address a.is_open (a.sender ∙ r) (a.peer ∙ e) in
            first_of_empty x.text (rw (← none) a.prefix);
        is_prefix = λ x p i r e own.
            let a = there x i in
            let c = safe.is_prefix x.address p a.is_open (a.sender ∙ r) (a.peer ∙ e) own in
            let y = sender_at views messages m s x p c.0 a c.1 in (
              y.0,
              y.1,
              rw (y.2) (IsPrefixOf-trans x.text (m.party x.address).text (m.party c.0).text a.prefix c.2),
            );
        is_committed = λ x i r d. d;
        is_whole = λ x i r d.
            let a = there x i in
            let c = safe.is_whole x.address a.is_open (a.sender ∙ r) (a.complete ∙ d) in (
              c.0,
              sym a.peer ∙ c.1,
              λ own.
                  let g = c.2 own in
                  let y = sender_at views messages m s x c.0 g.0 a g.1 in
                  (y.0, y.1, y.3 ∙ g.2, sym (a.whole d) ∙ (g.3 ∙ sym y.2), refl),
            );
        sender_last = λ x i r d.
            let a = there x i in
            let c = safe.sender_last x.address a.is_open (a.sender ∙ r) (a.complete ∙ d) in (
              c.0,
              sym a.peer ∙ c.1,
              λ own.
                  let g = c.2 own in
                  let y = found _ _ m s _ g.1.is_end in
                  let b = y.1.matches in (
                    y.0,
                    search (y.1.address ∙ g.1.address, sym b.peer ∙ g.1.peer, sym b.complete ∙ g.1.complete),
                  ),
            );
      }

  -- if no other host has sent a datagram, every peer is at one of the two
  pub shown_at_home : (views : List EndView) (messages : List Message) → IsShown network views messages →
      PeersAtHome network views messages
  shown_at_home views messages shown home x p i e =
      let by = shown_by network views messages shown in
      let s = by.3 in
      let a = s.ends i.0 x i.1 in
      search rules
