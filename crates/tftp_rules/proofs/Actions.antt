-- Each act of an end, each opening and each datagram is shown. For six other files and the crates tftp_player and
-- tftp_promises.
use Rattle.std.proofs.Common.{rules as std_rules}
use Rattle.tftp_rules.proofs.Common.{◌≡◌, List, refl, sym, true, [], false, ℕ, rules, ◌∷◌, arith, ◌∙◌, Some, Bool, ◌++◌}
use Rattle.tftp_rules.proofs.Common.{length, ◌+◌, ◌≤◌, inl, inr, set, true≢false, Contains, if◌then◌else◌, nat_lt}
use Rattle.tftp_rules.proofs.Common.{DEFAULT_BLOCK, block, Fits, IsPrefixOf, Endpoint, Network, Message, Party}
use Rattle.tftp_rules.proofs.Common.{Elsewhere, Data, Packet, Ack, Error, Request, At_client, nobody, Rule, message}
use Rattle.tftp_rules.proofs.Common.{Asks, Takes_oack, Appends, Sends_next, Completes, Fails, Says_error, Repeats}
use Rattle.tftp_rules.proofs.Common.{Takes_ack, Takes_data, Fails_with, Fails_to_begin, Strays, party_after, actor}
use Rattle.tftp_rules.proofs.Common.{asking, opened, HasAccepted, MayAct, Waits, IsNext, IsLive, packets, EndView}
use Rattle.tftp_rules.proofs.Common.{Matches, IsShownAt, IsShownWithin, ActInTurn, party_then, sent_by, OpensEnd}
use Rattle.tftp_rules.proofs.Common.{AsksUnanswered, NoneAt, party_of, WireRequest}
use Rattle.tftp_rules.specs.EndShown.{Stands}
use Rattle.tftp_rules.specs.Shows.{view_of}
use Rattle.tftp_rules.proofs.Acting.{stays_open}
use Rattle.tftp_rules.proofs.Refines.{shown_acts, shown_opens, shown_speaks, shown_within}

-- the number that a client begins with, once it has a peer
abbrev begins : Bool → ℕ
begins sender = if sender then 1 else 0

reader_begins : (sender : Bool) → sender ≡ false → begins sender ≡ 0
reader_begins sender e = rw e refl

writer_begins : (sender : Bool) → sender ≡ true → begins sender ≡ 1
writer_begins sender e = rw e refl

-- an open end shows itself
pub match_self : (a : Endpoint) (asks : List ℕ) (x : Party) → x.is_open ≡ true → Matches (view_of a asks x) x
match_self a asks x o = search rules

-- only a prefix of the text of a receiver that failed is shown
pub match_cut : (a : Endpoint) (asks : List ℕ) (x : Party) (t : List ℕ) → x.is_open ≡ true → x.failed ≡ true →
    x.complete ≡ false → IsPrefixOf t x.text → (x.sender ≡ true → x.text ≡ t) →
    Matches (record (view_of a asks x) { text = t }) x
match_cut a asks x t o f d b s = search rules

-- the end says this
abbrev pub says : EndView → Endpoint → Packet → List Message
says e to packet = message e.address to packet ∷ []

module _ {network : Network} {first : List Rule} {views : List EndView} {messages : List Message} {k : ℕ} {e : EndView}
    (s : Stands network first views messages k e) where
  -- they are a few
  acted : (rs : List Rule) → length rs ≤ 3 → (f : EndView) →
      IsShownWithin network (length rs) first (set views k f) (messages ++ sent_by network rs (party_of e)) →
      IsShownWithin network 3 first (set views k f) (messages ++ sent_by network rs (party_of e))
  acted rs few f h = search rules

  -- the rules of the end act in turn
  pub goes : (rs : List Rule) → length rs ≤ 3 → e.failed ≡ false →
      ActInTurn network rs e.address messages (party_of e) →
      IsShownWithin network 3 first (set views k (view_of e.address e.request (party_then rs (party_of e))))
      (messages ++ sent_by network rs (party_of e))
  goes rs few f t = search (rules, acted, shown_acts, match_self, stays_open)

  -- they act in turn and it fails, so that only a prefix of its text is shown
  pub goes_cut : (rs : List Rule) → length rs ≤ 3 → (t : List ℕ) → e.failed ≡ false →
      ActInTurn network rs e.address messages (party_of e) →
      (party_then rs (party_of e)).failed ≡ true → (party_then rs (party_of e)).complete ≡ false →
      IsPrefixOf t (party_then rs (party_of e)).text →
      ((party_then rs (party_of e)).sender ≡ true → (party_then rs (party_of e)).text ≡ t) →
      IsShownWithin network 3 first
      (set views k (record (view_of e.address e.request (party_then rs (party_of e))) { text = t }))
      (messages ++ sent_by network rs (party_of e))
  goes_cut rs few t f turns failed done b same =
      search (rules, acted, shown_acts, match_cut, stays_open)

  -- a waiting reader stores DATA 1
  pub stores_first : (from : Endpoint) (bytes : List ℕ) →
      MayAct network (Takes_data e.address from bytes) messages (party_of e) → length bytes ≤ DEFAULT_BLOCK →
      IsShownWithin network 3 first
      (set views k (record e {
        peer = Some from;
        size = DEFAULT_BLOCK;
        number = 1;
        complete = nat_lt (length bytes) DEFAULT_BLOCK;
        text = e.text ++ bytes;
      })) (messages ++ says e from (Ack 1))
  stores_first from bytes g l =
      let n = reader_begins e.sender g.1 in
      let a = goes (Takes_data e.address from bytes ∷ Appends e.address from bytes ∷ []) (omega arith) g.0.0.2
      (refl, g, (refl, (g.0.0, g.1, refl, rw n g.2, l), tt)) in
      rw n at a

  -- a waiting reader refuses DATA 1, of which it stored a part at most
  pub refuses_first : (from : Endpoint) (bytes t : List ℕ) →
      MayAct network (Takes_data e.address from bytes) messages (party_of e) → length bytes ≤ DEFAULT_BLOCK →
      IsPrefixOf t (e.text ++ bytes) →
      IsShownWithin network 3 first
      (set views k (record e { peer = Some from; size = DEFAULT_BLOCK; number = 0; failed = true; text = t }))
      (messages ++ says e from Error)
  refuses_first from bytes t g l b =
      let n = reader_begins e.sender g.1 in
      let a =
      goes_cut (Takes_data e.address from bytes ∷ Fails_with e.address from bytes ∷ Says_error e.address from ∷ [])
      (omega arith) t g.0.0.2 (refl, g, (refl, (g.0.0, g.1, refl, rw n g.2, l), (refl, tt, tt))) refl g.0.0.1 b
      (λ q. absurd (true≢false (sym q ∙ g.1))) in
      rw n at a

  -- a waiting reader handles an OACK
  pub accepts : (from : Endpoint) (size : ℕ) → MayAct network (Takes_oack e.address from size) messages (party_of e) →
      e.sender ≡ false →
      IsShownWithin network 3 first (set views k (record e { peer = Some from; size = size; number = 0 }))
      (messages ++ says e from (Ack 0))
  accepts from size g r =
      let n = reader_begins e.sender r in
      let d : (if e.sender then Data 1 (block e.text size 1) else Ack 0) ≡ Ack 0 = rw r refl in
      let a = goes (Takes_oack e.address from size ∷ []) (omega arith) g.0.0.2 (refl, g, tt) in
      rw (n, d) at a

  -- a waiting writer handles an OACK, or ACK 0
  pub sends_first : (from : Endpoint) (size : ℕ) → Waits network (party_of e) from → e.sender ≡ true →
      HasAccepted messages e.address from size → Fits e.text size →
      IsShownWithin network 3 first (set views k (record e { peer = Some from; size = size; number = 1 }))
      (messages ++ says e from (Data 1 (block e.text size 1)))
  sends_first from size w r (inl oack) fits =
      let n = writer_begins e.sender r in
      let d : (if e.sender then Data 1 (block e.text size 1) else Ack 0) ≡ Data 1 (block e.text size 1) = rw r refl in
      let a = goes (Takes_oack e.address from size ∷ []) (omega arith) w.0.2 (refl, (w, oack, λ _. fits), tt) in
      rw (n, d) at a
  sends_first from size w r (inr ack) fits =
      let n = writer_begins e.sender r in
      let a =
      goes (Takes_ack e.address from ∷ []) (omega arith) w.0.2 (refl, (w, r, ack.1, (rw (ack.0) at fits)), tt) in
      rw (ack.0) (rw n at a)

  -- a waiting writer gives up before DATA 1, and sends an ERROR
  pub refuses_to_begin : (from : Endpoint) (size : ℕ) →
      MayAct network (Fails_to_begin e.address from size) messages (party_of e) →
      IsShownWithin network 3 first (set views k (record e { peer = Some from; size = size; failed = true }))
      (messages ++ says e from Error)
  refuses_to_begin from size g =
      goes (Fails_to_begin e.address from size ∷ Says_error e.address from ∷ []) (omega arith) g.0.0.2
      (refl, g, (refl, tt, tt))

  -- a receiver stores the next block
  pub stores : (from : Endpoint) (bytes : List ℕ) → IsNext messages (party_of e) e.address from bytes →
      IsShownWithin network 3 first
      (set views k (record e {
        number = e.number + 1;
        complete = nat_lt (length bytes) e.size;
        text = e.text ++ bytes;
      })) (messages ++ says e from (Ack (e.number + 1)))
  stores from bytes g = goes (Appends e.address from bytes ∷ []) (omega arith) g.0.2 (refl, g, tt)

  -- a receiver refuses the next block, of which it stored a part at most
  pub refuses_next : (from : Endpoint) (bytes t : List ℕ) → IsNext messages (party_of e) e.address from bytes →
      IsPrefixOf t (e.text ++ bytes) →
      IsShownWithin network 3 first (set views k (record e { failed = true; text = t }))
      (messages ++ says e from Error)
  refuses_next from bytes t g b =
      goes_cut (Fails_with e.address from bytes ∷ Says_error e.address from ∷ []) (omega arith) t g.0.2
      (refl, g, (refl, tt, tt)) refl g.0.1 b (λ q. absurd (true≢false (sym q ∙ g.1)))

  -- a sender whose newest block is acknowledged sends the next one
  pub sends : (from : Endpoint) → MayAct network (Sends_next e.address from) messages (party_of e) →
      IsShownWithin network 3 first (set views k (record e { number = e.number + 1 }))
      (messages ++ says e from (Data (e.number + 1) (block e.text e.size (e.number + 1))))
  sends from g = goes (Sends_next e.address from ∷ []) (omega arith) g.0.0.2 (refl, g, tt)

  -- a sender whose last block is acknowledged is complete
  pub completes : (from : Endpoint) → MayAct network (Completes e.address from) messages (party_of e) →
      IsShownWithin network 3 first (set views k (record e { complete = true })) messages
  completes from g =
      let a = goes (Completes e.address from ∷ []) (omega arith) g.0.0.2 (refl, g, tt) in search rules

  -- an end closes without a reply; of a receiver's text a prefix is shown from then on
  pub closes : (t : List ℕ) → IsLive (party_of e) → IsPrefixOf t e.text → (e.sender ≡ true → e.text ≡ t) →
      IsShownWithin network 3 first (set views k (record e { failed = true; text = t })) messages
  closes t g b same =
      let a = goes_cut (Fails e.address ∷ []) (omega arith) t g.2 (refl, g, tt) refl g.1 b same in search rules

  -- an end gives up and sends an ERROR
  pub refuses : (to : Endpoint) (t : List ℕ) → IsLive (party_of e) → IsPrefixOf t e.text →
      (e.sender ≡ true → e.text ≡ t) →
      IsShownWithin network 3 first (set views k (record e { failed = true; text = t })) (messages ++ says e to Error)
  refuses to t g b same =
      goes_cut (Fails e.address ∷ Says_error e.address to ∷ []) (omega arith) t g.2 (refl, g, (refl, tt, tt)) refl g.1 b
      same

module _ (network : Network) (first : List Rule) (views : List EndView) (messages : List Message)
    (h : IsShownAt network first views messages) where
  -- one rule is a few
  one_more : (vs : List EndView) (ms : List Message) → IsShownWithin network 1 first vs ms →
      IsShownWithin network 3 first vs ms
  one_more vs ms w = shown_within network 1 3 first vs ms (omega arith) w

  -- a datagram is sent again
  pub repeats : (old : Message) → Contains messages old → IsShownWithin network 3 first views (messages ++ old ∷ [])
  repeats old c = one_more _ _ (shown_speaks network first views messages (Repeats old) h tt c)

  -- an ERROR is sent, to a wrong peer or from the request port
  pub says_error : (from to : Endpoint) →
      IsShownWithin network 3 first views (messages ++ message from to Error ∷ [])
  says_error from to = one_more _ _ (shown_speaks network first views messages (Says_error from to) h tt tt)

  -- a stranger sends any message
  pub strays : (stray : Message) → network.host_of stray.from ≡ Elsewhere →
      IsShownWithin network 1 first views (messages ++ stray ∷ [])
  strays stray o = shown_speaks network first views messages (Strays stray) h tt o

  -- an end opens by a rule
  pub opens : (asked : List ℕ) (r : Rule) → OpensEnd r → MayAct network r messages nobody → NoneAt views (actor r) →
      AsksUnanswered r asked views → (party_after r nobody).is_open ≡ true →
      IsShownWithin network 3 first (views ++ view_of (actor r) asked (party_after r nobody) ∷ [])
      (messages ++ packets network r nobody)
  opens asked r o may new none opened =
      search (std_rules, party_after, nobody, one_more, shown_opens, actor, match_self)

  -- a client opens; a reader has no text
  pub asks : (a : Endpoint) (write : Bool) (request : WireRequest) (text : List ℕ) → network.host_of a ≡ At_client →
      NoneAt views a → (write ≡ false → text ≡ []) →
      IsShownWithin network 3 first (views ++ view_of a [] (asking write request text) ∷ [])
      (messages ++ message a network.request_port (Request write request) ∷ [])
  asks a write request text place new none =
      opens [] (Asks a write request text) tt (refl, place, none) new tt refl
