-- An end stands as it did once more was done that is nothing new to it.
use Rattle.tftp_lives.proofs.Common.{List, ◌≡◌, ℕ, true, Some, None, inl, false, ◌∷◌, Option, refl, inr, ap, arith, ◌≤◌}
use Rattle.tftp_lives.proofs.Common.{Bool, [], Packet, EndState, Reply, Endpoint, Phase, Receiving, Sending, Waiting}
use Rattle.tftp_lives.proofs.Common.{Terms, Role, Act, Said, with_reply, rules}
use Rattle.tftp_lives.specs.Lives.{Lost}
use Rattle.tftp_lives.proofs.Stands.{Among, Counts, Heard, IsAnswered, IsCopied, IsDue, Knows, NotFrom, SaidSo, SentBy}
use Rattle.tftp_lives.proofs.Stands.{Stands, Goes, Over, TalksSo, copies_on, due_more, due_weaker, heard_weaker}
use Rattle.tftp_lives.proofs.Stands.{said_weaker, timed_on}

-- a new datagram was sent once
pub copied_first : (last : Act) (acts : List Act) (retries left : ℕ) → left ≡ retries →
    IsCopied (last ∷ acts) last retries left 0
copied_first last acts retries left all = record {
  count = 1;
  copies = inl (refl, tt);
  enough = omega (arith, all);
  later = [];
  earlier = acts;
  is = refl;
  timeouts = omega (arith, all);
}

-- whatever that is
pub copied_on : (act : Act) (acts : List Act) (last : Act) (retries left more : ℕ) →
    IsCopied acts last retries left more → IsCopied (act ∷ acts) last retries left more
copied_on act acts last retries left more c =
    let l = timed_on act c.later in
    let m = c.timeouts in
    record {
      count = c.count;
      copies = copies_on c.count last act acts c.copies;
      enough = c.enough;
      later = act ∷ c.later;
      earlier = c.earlier;
      is = ap (λ (ys : List Act). act ∷ ys) c.is;
      timeouts = omega (arith, l, m);
    }

-- what it heard now is answered
pub talks_on : (act : Act) (acts : List Act) (sends : Bool) (role : Role) (to : Endpoint) (bytes : List ℕ) (t : Terms)
    (n : ℕ) → Heard t (IsAnswered role.side t sends n) act → TalksSo sends acts role to bytes t n →
    TalksSo sends (act ∷ acts) role to bytes t n
talks_on act acts sends role to bytes t n now g = record {
  side_is = g.side_is;
  sender = g.sender;
  to_is = g.to_is;
  said = g.said;
  sent = λ j counts few.
      said_weaker (Among acts) (Among (act ∷ acts)) t sends j (λ a h. inr h) (g.sent j counts few);
  due = (
    heard_weaker t (IsAnswered role.side t sends n) (IsDue t sends n (SentBy None acts)) (λ p.
        due_weaker p sends (λ j. (j ≤ n) × Counts role.side t sends j) (λ j. (j ≤ n) × SaidSo (SentBy None acts) t sends j)
        (λ j h. (h.0, said_weaker (Among acts) (SentBy None acts) t sends j (λ a s. inl s) (g.sent j h.1 h.0)))) act now,
    due_more t sends n n (omega arith) None (Some act) (λ a is. absurd is) acts g.due,
  );
}

-- an act that handles nothing is nothing to it
pub knows_on : (act : Act) → ((server : Endpoint) → NotFrom server act) →
    ((t : Terms) (P : Packet → Type 0) → Heard t P act) → (acts : List Act) (role : Role) (to : Endpoint)
    (bytes : List ℕ) (p : Phase) → Knows acts role to bytes p → Knows (act ∷ acts) role to bytes p
knows_on act none quiet acts role to bytes (Waiting asked limit) k = (k.0, k.1, (none to, k.2))
knows_on act none quiet acts role to bytes (Sending t n) g = search (rules, talks_on, true)
knows_on act none quiet acts role to bytes (Receiving t n) g = search (rules, talks_on, false)
knows_on act none quiet acts role to bytes p k = absurd k

stands_on : (act : Act) → ((server : Endpoint) → NotFrom server act) →
    ((t : Terms) (P : Packet → Type 0) → Heard t P act) → (acts : List Act) (e : EndState) → Stands acts e →
    Stands (act ∷ acts) e
stands_on act none quiet acts e (Goes p is k c) =
    Goes p is (knows_on _ none quiet _ _ _ _ p k) (copied_on act _ _ _ _ _ c)
stands_on act none quiet acts e (Over over) = Over over

pub stands_more : (acts : List Act) (e : EndState) (reply : Option Reply) → Stands acts e →
    Stands (with_reply reply acts) e
stands_more acts e None h = h
stands_more acts e (Some reply) h = stands_on (Said reply.to reply.bytes) (λ server. tt) (λ t P. tt) acts e h

-- a datagram that it lost is nothing to it
pub stands_lost : (from : Endpoint) (bytes : List ℕ) (acts : List Act) (e : EndState) → Stands acts e →
    Stands (Lost from bytes ∷ acts) e
stands_lost from bytes acts e h = stands_on (Lost from bytes) (λ server. tt) (λ t P. tt) acts e h
