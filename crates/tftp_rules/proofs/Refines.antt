-- What is shown stays shown after a step, an opening or a datagram. For four functions, Actions, ViewSafe and the
-- crates tftp_player and tftp_promises.
use Rattle.std.proofs.Common.{rules as std_rules}
use Rattle.tftp_rules.proofs.Common.{◌≡◌, List, refl, sym, true, [], false, ℕ, rules, ◌∷◌, ◌∙◌, Some, Bool, ◌++◌, ap}
use Rattle.tftp_rules.proofs.Common.{subst, length, ◌≤◌, inl, inr, set, std_rules, cases_Bool, ◌≢◌, ◌⊎◌, slice_get}
use Rattle.tftp_rules.proofs.Common.{Spells, Holds, Endpoint, Network, Message, Machine, Party, start, nobody, Rule}
use Rattle.tftp_rules.proofs.Common.{after, Asks, run, Opens_with, Guard, IsLegal, Opens_plainly, party_after, actor}
use Rattle.tftp_rules.proofs.Common.{MayAct, packets, OpensNoDuplicate, AreOver, EndView, Matches, IsShownWithin}
use Rattle.tftp_rules.proofs.Common.{sent_by, Shows, OpensEnd, AsksUnanswered, NoneAt, party_of, IsShown, requested}
use Rattle.tftp_rules.proofs.Common.{WirePacket, WireRequest, AreRecorded}
use Rattle.tftp_rules.specs.Shows.{answered_by, HasRequest, IsInService, AreApart, Speaks, NoneAnswers}
use Rattle.tftp_rules.proofs.Acting.{Unshown, with_unshown, act_in_turn}
use Rattle.tftp_rules.proofs.Endpoints.{cases_same}
use Rattle.tftp_rules.specs.Refines.{EndsGoOn, EndsOpen, DatagramsAreAdded}
use Rattle.tftp_rules.proofs.Grows.{Grows, with_at, with_other}
use Rattle.tftp_rules.proofs.Indices.{slice_get-set_cases, slice_get-set_same, slice_get-set_other}
use Rattle.tftp_rules.proofs.Indices.{slice_get-push_cases, slice_get-push_old, slice_get-push_new}
use Rattle.tftp_rules.proofs.RecordedKept.{recorded_run, recorded_start}
use Rattle.tftp_rules.proofs.RulesGrow.{run_grows}
use Rattle.tftp_rules.proofs.Runs.{Holds-start, Holds-run, run_then, legal_then}

-- the view of an end that did not fail has all of its party but `plain` and the request
view_is_whole : (e : EndView) (x : Party) → Matches e x → x.text ≡ e.text →
    x ≡ with_unshown (record { plain = x.plain; request = x.request }) (party_of e)
view_is_whole e x m t = search rules

same_text : (e : EndView) (x : Party) → Matches e x → e.failed ≡ false → x.text ≡ e.text
same_text e x m f = search rules

-- a match does not depend on `plain` or on the request
match_unshown : (f : EndView) (b : Unshown) (x : Party) → Matches f x → Matches f (with_unshown b x)
match_unshown f b x m = search

-- ends at the same endpoints, index by index, are apart too
apart_as : (xs ys : List EndView) →
    ((k : ℕ) (y : EndView) → slice_get ys k ≡ Some y → (x : EndView) × (slice_get xs k ≡ Some x)
    × (x.address ≡ y.address)) → AreApart xs → AreApart ys
apart_as xs ys was apart j k y z at there same = search rules

-- after an end stays at its endpoint
apart_set : (views : List EndView) (k : ℕ) (d f : EndView) → slice_get views k ≡ Some d → f.address ≡ d.address →
    AreApart views → AreApart (set views k f)
apart_set views k d f at same = search (rules, apart_as, slice_get-set_cases)

-- after an end opens at a new endpoint
apart_push : (views : List EndView) (f : EndView) → NoneAt views f.address → AreApart views → AreApart (views ++ f ∷ [])
apart_push views f none apart j k x y i l same = search (rules, slice_get-push_cases)

-- an end of the server answers the same request while it continues
same_answer : (x y : Party) → Grows x y → answered_by x ≡ answered_by y
same_answer x y g = search rules

-- an end whose request is shown is one of the server
serves_by : (e : EndView) → HasRequest e → e.client ≡ false
serves_by e (inl busy) = busy.0
serves_by e (inr shown) = shown.0

-- its request was shown before
had_request : (e f : EndView) (x y : Party) → Matches e x → Matches f y → Grows x y → e.failed ≡ false →
    f.request ≡ e.request → HasRequest f → HasRequest e
had_request e f x y m n g alive same h9 = search rules

-- no end is open where none is shown
none_open : (views : List EndView) (messages : List Message) (m : Machine) → Shows views messages m → (a : Endpoint) →
    NoneAt views a → (m.party a).is_open ≡ false
none_open views messages m s a none = search rules

-- if no end that is shown answers the request, those that it opened are complete or failed
all_over : (views : List EndView) (messages : List Message) (m : Machine) → Shows views messages m →
    (peer : Endpoint) (write : Bool) (request : WireRequest) →
    NoneAnswers views peer (requested write request) → AreOver m peer write request
all_over views messages m s peer write request none a by =
    one_over (cases_Bool (m.party a).complete) (cases_Bool (m.party a).failed) where
      one_over : ((m.party a).complete ≡ true) ⊎ ((m.party a).complete ≡ false) →
          ((m.party a).failed ≡ true) ⊎ ((m.party a).failed ≡ false) →
          ((m.party a).complete ≡ true) ⊎ ((m.party a).failed ≡ true)
      one_over (inl d) f = inl d
      one_over (inr d) (inl f) = inr f
      one_over (inr d) (inr f) = absurd (
          let there = s.only a by.is_open in
          let e = there.1 in
          let t : Matches e (m.party a) = search std_rules in
          let busy : IsInService e = (sym t.client ∙ by.server, sym t.complete ∙ d, sym t.failed ∙ f) in
          let says = s.asked there.0 e there.2 (inl busy) in
          let same : answered_by (m.party e.address) ≡ requested write request = search rules in
          none there.0 e there.2 (search (
            sym t.peer ∙ by.peer_is,
            subst (λ (p : WirePacket). Spells p e.request) same
                says,
          ))
          )

opens_no_duplicate : (views : List EndView) (messages : List Message) (m : Machine) (r : Rule) (bytes : List ℕ) →
    Shows views messages m → OpensEnd r → AsksUnanswered r bytes views → OpensNoDuplicate r m
opens_no_duplicate views messages m (Asks at write request text) bytes s o h = tt
opens_no_duplicate views messages m (Opens_plainly at peer write request text) bytes s o h =
    all_over views messages m s peer write request h.1
opens_no_duplicate views messages m (Opens_with at peer write request text size) bytes s o h =
    all_over views messages m s peer write request h.1
opens_no_duplicate views messages m r bytes s o h = absurd o

new_answer : (views : List EndView) (f : EndView) (r : Rule) → OpensEnd r → AsksUnanswered r f.request views →
    Matches f (party_after r nobody) → f.client ≡ false → Spells (answered_by (party_after r nobody)) f.request
new_answer views f r o h t server = search rules

speaks_none : (r : Rule) → Speaks r → (m : Machine) → OpensNoDuplicate r m
speaks_none r o m = search rules

-- an end that has closed, and whose request is not shown
forgotten : (e : EndView) → HasRequest (record e { request = [] }) → (IsInService e → ⊥) → ⊥
forgotten e (inl busy) over = over busy
forgotten e (inr shown) over = shown.1 refl

-- the view is that of its end, and has its request
abbrev IsSeen : Machine → EndView → Type 0
IsSeen m y =
    Matches y (m.party y.address) × (HasRequest y → Spells (answered_by (m.party y.address)) y.request)

module _ (network : Network) where
  -- no ends and no datagrams are shown by the empty run
  pub shown_start : IsShown network [] []
  shown_start = search rules

  -- a machine that shows them has the invariant
  pub shown_by : (views : List EndView) (messages : List Message) → IsShown network views messages →
      (m : Machine) × Holds network m × AreRecorded network m × Shows views messages m
  shown_by views messages shown = (
    run network shown.0 start,
    Holds-run network shown.0 start (Holds-start network) shown.1.0,
    recorded_run network shown.0 start (Holds-start network) (recorded_start network) shown.1.0,
    shown.1.1,
  )

  -- more rules show more
  shown_after : (first : List Rule) (vs : List EndView) (ms : List Message) → IsLegal network first start →
      (rs : List Rule) →
      IsLegal network rs (run network first start) → Shows vs ms (run network rs (run network first start)) →
      IsShownWithin network (length rs) first vs ms
  shown_after first vs ms before rs legal shows = search (rules, legal_then, run_then)

  -- it is shown within a greater number of rules, too
  pub shown_within : (few most : ℕ) (first : List Rule) (views : List EndView) (messages : List Message) → few ≤ most →
      IsShownWithin network few first views messages → IsShownWithin network most first views messages
  shown_within few most first views messages fits shown = search rules

  -- an end that acts by some rules in turn stays shown
  pub shown_acts : EndsGoOn network
  shown_acts first views messages k e f rs shown at alive turns same asks matches =
      let m = run network first start in
      let s = shown.1 in
      let a = e.address in
      let here = s.ends k e at in
      let x = m.party a in
      let acted =
      act_in_turn _ _ a _ m _ _ here.is_open (view_is_whole e x here (same_text e x here alive)) (λ d i. (rw (s.sent)
      i)) turns in
      let n = run network rs m in
      let w = acted.1 in
      let grows = (run_grows _ _ m (Holds-run _ _ _ (Holds-start network) shown.0) acted.0).grows a here.is_open in
      let now : Matches f (n.party a) = rw (w.here.1) (match_unshown f w.here.0 _ matches) in
      let at_new : Matches f (n.party f.address) = rw (← ap n.party (sym same)) now in
      let asked_new : HasRequest f → Spells (answered_by (n.party f.address)) f.request = λ has.
      (rw (asks) (subst (λ (p : WirePacket). Spells p e.request) (same_answer x _ grows ∙ ap (λ (q : Endpoint).
      answered_by (n.party q)) (sym same)) (s.asked k e at (had_request e f x _ here now grows alive asks has)))) in
      let away : (j : ℕ) (y : EndView) → j ≢ k → slice_get views j ≡ Some y → y.address ≢ a =
      λ j y other i q. other (s.apart j k y e i at q) in
      let each : (j : ℕ) (y : EndView) → slice_get (set views k f) j ≡ Some y → IsSeen n y =
      λ j y i. elim (slice_get-set_cases _ k j f y i) [
        | inl b ↦ rw (b.1) (at_new, asked_new)
        | inr b ↦ rw (w.others y.address (away j y b.0 b.1)) (s.ends j y b.1, s.asked j y b.1)
      ] in
      shown_after _ _ _ shown.0 _ acted.0 (record {
        sent = w.sent ∙ ap (λ (ds : List Message). ds ++ sent_by network rs (party_of e)) s.sent;
        ends = λ j y i. (each j y i).0;
        apart = apart_set views k e f at same s.apart;
        asked = λ j y i. (each j y i).1;
        only = λ b o. elim (cases_same b a) [
          | inl q ↦ (k, f, slice_get-set_same views k f e at, same ∙ sym q)
          | inr d ↦ let old = s.only b (rw (← w.others b d) o) in
              let elsewhere : old.0 ≢ k = search rules in
              (old.0, old.1, slice_get-set_other views k _ f elsewhere ∙ old.2, old.3)
        ];
      })

  -- the request of an end that is complete or failed is not shown
  pub shown_forgets : (most : ℕ) (first : List Rule) (views : List EndView) (messages : List Message) (k : ℕ)
      (d e f : EndView) → slice_get views k ≡ Some d → f ≡ record e { request = [] } → (IsInService e → ⊥) →
      IsShownWithin network most first (set views k e) messages →
      IsShownWithin network most first (set views k f) messages
  shown_forgets most first views messages k d e f at same over shown =
      let m = run network (first ++ shown.0) start in
      let s = shown.2.1 in
      let here = slice_get-set_same views k e d at in
      let old = s.ends k e here in
      let matches : Matches (record e { request = [] }) (m.party e.address) = search in
      let now : Matches f (m.party f.address) = rw (same) matches in
      let address : f.address ≡ e.address = ap (λ (z : EndView). z.address) same in
      let idle : HasRequest f → ⊥ =
      rw (same) (λ has. forgotten e has over) in (
        shown.0,
        shown.1,
        (
          shown.2.0,
          record {
            sent = s.sent;
            ends = λ j y i. elim (slice_get-set_cases views k j f y i) [
              | inl b ↦ rw (b.1) now
              | inr b ↦ s.ends j y (slice_get-set_other views k j e b.0 ∙ b.1)
            ];
            apart = search (std_rules, apart_as, set, slice_get-set_cases, slice_get, slice_get-set_other);
            asked = λ j y i. elim (slice_get-set_cases views k j f y i) [
              | inl b ↦ λ has. absurd (idle (subst HasRequest b.1 has))
              | inr b ↦ s.asked j y (slice_get-set_other views k j e b.0 ∙ b.1)
            ];
            only = search (rules, slice_get-set_cases, slice_get-set_same, slice_get-set_other);
          },
        ),
      )

  may_open : (r : Rule) → OpensEnd r → (sent : List Message) (x : Party) → x.is_open ≡ false →
      MayAct network r sent nobody → MayAct network r sent x
  may_open r o sent x c h = search rules

  opens_alike : (r : Rule) → OpensEnd r → (x : Party) →
      (party_after r x ≡ party_after r nobody) × (packets network r x ≡ packets network r nobody)
  opens_alike r o x = search rules

  -- an end that opens by a rule is shown
  pub shown_opens : EndsOpen network
  shown_opens first views messages f r shown opening may same none matches asks =
      let m = run network first start in
      let s = shown.1 in
      let a = actor r in
      let x = m.party a in
      let closed = none_open views messages m s a (subst (NoneAt views) same none) in
      let guard : Guard network r m = rw (s.sent) (may_open r opening messages x closed may) in
      let alike = opens_alike r opening x in
      let n = after network r m in
      let here : n.party f.address ≡ party_after r nobody =
      ap n.party same ∙ (with_at m.party a (party_after r x) ∙ alike.0) in
      let away : (j : ℕ) (y : EndView) → slice_get views j ≡ Some y → y.address ≢ a =
      λ j y i q. none j y i (q ∙ sym same) in
      let each : (j : ℕ) (y : EndView) → slice_get (views ++ f ∷ []) j ≡ Some y → IsSeen n y =
      λ j y i. elim (slice_get-push_cases views j f y i) [
        | inl b ↦
            rw (with_other m.party a (party_after r x) y.address (away j y b)) (s.ends j y b, s.asked j y b)
        | inr b ↦
            rw (b.1) (rw (here) (matches, λ has. new_answer views f r opening asks matches (serves_by f has)))
      ] in
      shown_after first (views ++ f ∷ []) (messages ++ packets network r nobody) shown.0 (r ∷ []) (
        guard,
        opens_no_duplicate views messages m r f.request s opening asks,
        tt,
      ) (record {
        sent = search std_rules;
        ends = λ j y i. (each j y i).0;
        apart = apart_push views f none s.apart;
        asked = λ j y i. (each j y i).1;
        only = λ b o. elim (cases_same b a) [
          | inl q ↦ (length views, f, slice_get-push_new views f, same ∙ sym q)
          | inr d ↦
              let old = s.only b (rw (← with_other m.party a (party_after r x) b d) o) in
              (old.0, old.1, slice_get-push_old views old.0 f old.1 old.2, old.3)
        ];
      })

  may_speak : (r : Rule) → Speaks r → (sent : List Message) (x : Party) → MayAct network r sent nobody →
      MayAct network r sent x
  may_speak r o sent x h = search rules

  speaks_alike : (r : Rule) → Speaks r → (x : Party) →
      (party_after r x ≡ x) × (packets network r x ≡ packets network r nobody)
  speaks_alike r o x = search rules

  -- a datagram that changes no end is shown
  pub shown_speaks : DatagramsAreAdded network
  shown_speaks first views messages r shown speaking may =
      let m = run network first start in
      let s = shown.1 in
      let a = actor r in
      let x = m.party a in
      let guard : Guard network r m = rw (s.sent) (may_speak r speaking messages x may) in
      let alike = speaks_alike r speaking x in
      let n = after network r m in
      let stays : (q : Endpoint) → n.party q ≡ m.party q = search std_rules in
      shown_after first views (messages ++ packets network r nobody) shown.0 (r ∷ []) (
        guard,
        speaks_none r speaking m,
        tt,
      ) (record {
        sent = search std_rules;
        ends = λ j y i. (rw ((stays y.address)) (s.ends j y i));
        apart = s.apart;
        asked = λ j y i has. (rw ((stays y.address)) (s.asked j y i has));
        only = λ b o. s.only b (rw (← stays b) o);
      })
