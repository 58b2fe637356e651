-- Each rule of the machine preserves the invariant: a client's request, the opening of a server's end, a client that
-- accepts its peer, a receiver that stores a block, a sender that sends the next one, an end that fails. For five other
-- files.
use Rattle.std.proofs.Common.{rules as std_rules}
use Rattle.tftp_rules.proofs.Common.{◌≡◌, List, refl, sym, true, [], false, ℕ, rules, arith, ◌∙◌, Some, Bool, ◌++◌}
use Rattle.tftp_rules.proofs.Common.{length, ◌+◌, ◌<◌, inl, inr, ◌*◌, take, true≢false, cases_Bool, ltb-true, ltb-false}
use Rattle.tftp_rules.proofs.Common.{Contains, ◌≢◌, if◌then◌else◌, nat_lt, DEFAULT_BLOCK, block, block_count}
use Rattle.tftp_rules.proofs.Common.{IsPrefixOf, Holds, Attests, HasReceived, IsSoundParty, Endpoint, Network, Message}
use Rattle.tftp_rules.proofs.Common.{Machine, Party, Elsewhere, Data, Ack, At_server, Request, Rule, message, after}
use Rattle.tftp_rules.proofs.Common.{Asks, Opens_with, Guard, Opens_plainly, Takes_oack, Appends, Sends_next, Completes}
use Rattle.tftp_rules.proofs.Common.{Fails, Takes_ack, Takes_data, Fails_with, Fails_to_begin, party_after, actor}
use Rattle.tftp_rules.proofs.Common.{opened, taken, HasAccepted, Waits, IsNext, IsLive, packets, IsAcked, HasText}
use Rattle.tftp_rules.proofs.Common.{WireRequest}
use Rattle.tftp_rules.proofs.Steps.{own_server, own_of, server_end, not-not, received_nothing, one_sent, same_size}
use Rattle.tftp_rules.proofs.Steps.{moved, of_peer, IsSound-moves, GoesOn, next_block}
use Rattle.tftp_rules.proofs.Grows.{Grows, AllGrow, AllGrow-with, kept, attested_at, attested_one, attested_none}
use Rattle.tftp_rules.proofs.Grows.{HasReceived-grows, IsSound-grows}
use Rattle.tftp_rules.proofs.Blocks.{prefix_by_take, take-block, last_block, full_block, count_is_past}

-- the first datagram of a client that has accepted its peer
attested_first : (x : Party) (peer : Endpoint) (size : ℕ) → x.is_open ≡ true → x.client ≡ true →
    Attests (taken x peer size) peer (if x.sender then Data 1 (block x.text size 1) else Ack 0)
attested_first x peer size o c = search rules

-- a client that has accepted this peer and size
abbrev pub accepting : Party → Endpoint → ℕ → ℕ → Bool → Party
accepting x peer size number failed = record x { peer = Some peer; size = size; number = number; failed = failed }

-- the piece follows the receiver's text
more_text : (x y : Party) (piece : List ℕ) → GoesOn x y piece →
    x.text ++ piece ≡ take ((x.number + 1) * x.size) y.text
more_text x y piece q = rw (q.so_far, q.bytes) (take-block y.text x.number x.size)

-- a receiver that appends its peer's next block has a beginning of its peer's text
more_prefix : (x y : Party) (piece : List ℕ) → GoesOn x y piece → IsPrefixOf (x.text ++ piece) y.text
more_prefix x y piece q = rw (more_text x y piece q) (prefix_by_take ((x.number + 1) * x.size) y.text)

-- and so it has received one block more
received_more : (x y : Party) (piece : List ℕ) → GoesOn x y piece →
    HasReceived (record x { number = x.number + 1; complete = nat_lt (length piece) x.size; text = x.text ++ piece }) y
received_more x y piece q =
    search (rules, more_prefix, ltb-true, last_block, more_text, ltb-false, full_block)

-- if it fails at that block, what it stored is still a beginning of that text
received_failed : (x y : Party) (piece : List ℕ) → x.complete ≡ false → GoesOn x y piece →
    HasReceived (record x { failed = true; text = x.text ++ piece }) y
received_failed x y piece n q = search (rules, more_prefix, true≢false)

-- a server's end that receives has no text and no block at its opening
opens_empty : (write : Bool) (text : List ℕ) (size : ℕ) → HasText write text size → write ≡ true →
    (text ≡ []) × (◌≡◌ {A = ℕ} (if write then 0 else 1) 0)
opens_empty true text size h w = (h, refl)
opens_empty false text size h w = absurd (true≢false (sym w))

-- an end of the server whose peer is at this endpoint, with this block size
abbrev Serves : Party → Endpoint → ℕ → Type 0
Serves y at size = (y.is_open ≡ true) × (y.client ≡ false) × (y.peer ≡ Some at) × (y.size ≡ size)

-- ---- the acting end of a rule is sound, once all ends have gone on
module _ {network : Network} {m : Machine} (h : Holds network m) {new : Endpoint →
    Party} (all : AllGrow m.party new) where
  -- a server's end that opens
  opens : (at peer : Endpoint) (write plain : Bool) (request : WireRequest) (text : List ℕ) (size number : ℕ) →
      network.host_of at ≡ At_server → Contains m.sent (message peer network.request_port (Request write request)) →
      0 < size → (plain ≡ true → size ≡ DEFAULT_BLOCK) → (plain ≡ false → number ≡ 0) →
      (write ≡ true → (text ≡ []) × (number ≡ 0)) →
      IsSoundParty network new at (opened plain peer write request text size number)
  opens at peer write plain request text size number server come positive small begins empty =
      let x = opened plain peer write request text size number in
      let nothing : write ≡ true → (p : Endpoint) → HasReceived x (new p) =
      λ w p. received_nothing x (new p) (empty w).0 (empty w).1 refl in
      search (rules, not-not, of_peer)

  -- a waiting client accepts this peer and size, with this number, and may fail
  takes : (at peer : Endpoint) (size number : ℕ) (failed : Bool) → Waits network (m.party at) peer →
      ((m.party at).sender ≡ false → number ≡ 0) → Serves (m.party peer) at size →
      IsSoundParty network new at (accepting (m.party at) peer size number failed)
  takes at peer size number failed w begins q =
      let x = accepting (m.party at) peer size number failed in
      let s = h.ends at w.0.0 in
      let y = h.ends peer q.0 in
      let none = s.no_peer w.2 in
      let nothing : x.sender ≡ false → (p : Endpoint) → HasReceived x (new p) =
      λ z p. received_nothing x (new p) (none.2 z) (begins z) none.1 in
      search (rules, not-not, true≢false)

  -- a receiver moves so, with this part of its peer's text
  receives : (at peer : Endpoint) (bytes : List ℕ) → IsNext m.sent (m.party at) at peer bytes → (number : ℕ)
      (complete failed : Bool) (text : List ℕ) →
      ((y : Party) → GoesOn (m.party at) y bytes → HasReceived (moved (m.party at) number complete failed text) y) →
      IsSoundParty network new at (moved (m.party at) number complete failed text)
  receives at peer bytes g number complete failed text f =
      let old = m.party at in
      let x = moved old number complete failed text in
      let said = h.attested (message peer at (Data (old.number + 1) bytes)) g.3 in
      IsSound-moves network new at old number complete failed text (IsSound-grows network _ _ all at old (h.ends at
      g.0.0)) (λ e. absurd (cc)) (λ c s b n p e o. absurd (true≢false (sym s ∙ g.1))) (λ s. of_peer network (λ q.
      HasReceived x (new q)) old peer g.2 (λ own. let t = said own in
      HasReceived-grows x _ _ (all.grows peer t.is_open) t.sender (f (m.party peer) (next_block _ m h at peer bytes g
      own)))) (λ d. of_peer network (λ q. (new q).peer ≡ Some at) old peer g.2 (λ own. let t = said own in
      (all.grows peer t.is_open).peer at t.peer)) (λ s d p e o. absurd (true≢false (sym s ∙ g.1)))

  -- a sender with its newest block acknowledged moves so
  sends : (at peer : Endpoint) → IsAcked m.sent (m.party at) at peer → (number : ℕ) (complete : Bool) →
      (complete ≡ true → network.host_of peer ≢ Elsewhere → (m.party peer).complete ≡ true) →
      IsSoundParty network new at (record (m.party at) { number = number; complete = complete })
  sends at peer g number complete ends = search rules

  -- an end that is neither complete nor failed fails
  fails : (at : Endpoint) → IsLive (m.party at) → IsSoundParty network new at (record (m.party at) { failed = true })
  fails at g = search rules

module _ (network : Network) where
  -- the peer of a sender whose last block is acknowledged is complete
  last_acked : (m : Machine) → Holds network m → (at peer : Endpoint) → IsAcked m.sent (m.party at) at peer →
      (m.party at).number ≡ block_count (m.party at).text (m.party at).size → network.host_of peer ≢ Elsewhere →
      (m.party peer).complete ≡ true
  last_acked m h at peer g n o =
      let x = m.party at in
      let y = m.party peer in
      let t = h.attested (message peer at (Ack x.number)) g.3 o in
      let s = h.ends peer t.is_open in
      let same = same_size network m h at peer (g.0.0, t.is_open, g.2, t.peer) in
      elim (cases_Bool y.complete) [
        | inl d ↦ d
        | inr d ↦ absurd (let room = (s.received t.sender at t.peer (own_of network m h at g.0.0)).room d in
            let past = count_is_past x.text y.number y.size s.positive (rw (← same, ← n) t.number) in
            omega arith)
      ]

  -- the peer that accepted a client's request serves it
  serves : (m : Machine) → Holds network m → (at peer : Endpoint) (size : ℕ) → network.host_of peer ≡ At_server →
      HasAccepted m.sent at peer size → Serves (m.party peer) at size
  serves m h at peer size here accepted = search rules

  -- as a rule acts, its end goes on
  pub rule_grows : (r : Rule) (m : Machine) → Holds network m → Guard network r m → (m.party (actor r)).is_open ≡ true →
      Grows (m.party (actor r)) (party_after r (m.party (actor r)))
  rule_grows r m h g o = search rules

  -- and so do all
  pub rule_all : (r : Rule) (m : Machine) → Holds network m → Guard network r m →
      AllGrow m.party (after network r m).party
  rule_all r m h g = AllGrow-with m.party (actor r) (party_after r (m.party (actor r))) (rule_grows r m h g)

  -- the acting end of a rule, after it
  now_sound : (r : Rule) (m : Machine) → Holds network m → Guard network r m →
      AllGrow m.party (after network r m).party →
      (party_after r (m.party (actor r))).is_open ≡ true →
      IsSoundParty network (after network r m).party (actor r) (party_after r (m.party (actor r)))
  now_sound (Asks at write request text) m h g all o = search (rules, true≢false)
  now_sound (Opens_plainly at peer write request text) m h g all o =
      opens h all at peer write true request text DEFAULT_BLOCK _ g.1 g.2 (omega arith) (λ _. refl) (λ e. cc)
      (opens_empty _ _ _ g.3)
  now_sound (Opens_with at peer write request text size) m h g all o =
      opens h all at peer write false request text size 0 g.1 g.2 g.4 (λ e. cc) (λ _. refl) (λ w. (
        (opens_empty _ _ _
            g.3 w).0,
        refl,
      ))
  now_sound (Takes_oack at peer size) m h g all o =
      takes h all at peer size _ _ g.0 (λ z. rw z refl) (serves m h at peer size g.0.3 (inl g.1))
  now_sound (Takes_ack at peer) m h g all o =
      takes h all at peer _ _ _ g.0 (λ z. rw z refl) (serves m h at peer DEFAULT_BLOCK g.0.3 (inr (refl, g.2)))
  now_sound (Takes_data at peer bytes) m h g all o =
      let t = h.attested (message peer at (Data 1 bytes)) g.2 (own_server network peer g.0.3) in
      let c = server_end network m h peer t.is_open g.0.3 in
      let s = h.ends peer t.is_open in
      let small : (m.party peer).size ≡ DEFAULT_BLOCK = search std_rules in
      takes h all at peer DEFAULT_BLOCK _ _ g.0 (λ z. rw z refl) (t.is_open, c, t.peer, small)
  now_sound (Fails_to_begin at peer size) m h g all o =
      takes h all at peer size _ true g.0 (λ z. absurd (true≢false (sym g.1 ∙ z))) (serves m h at peer size g.0.3 g.2)
  now_sound (Appends at peer bytes) m h g all o = receives h all at peer bytes g _ _ _ _ (λ z q. received_more _ z _ q)
  now_sound (Fails_with at peer bytes) m h g all o =
      receives h all at peer bytes g _ _ true _ (λ z q. received_failed _ z _ g.0.1 q)
  now_sound (Sends_next at peer) m h g all o = sends h all at peer g.0 _ _ (λ d. absurd (true≢false (sym d ∙ g.0.0.1)))
  now_sound (Completes at peer) m h g all o = sends h all at peer g.0 _ true (λ _. last_acked m h at peer g.0 g.1)
  now_sound (Fails at) m h g all o = fails h all at g
  now_sound r m h g all o = IsSound-grows _ _ _ all _ _ (h.ends (actor r) o)

  -- what a rule sends is true of the acting end
  now_attested : (r : Rule) (m : Machine) → Holds network m → Guard network r m → (d : Message) →
      Contains (packets network r (m.party (actor r))) d → network.host_of d.from ≢ Elsewhere →
      Attests ((after network r m).party d.from) d.to d.packet
  now_attested r m h g d i own = search (rules, attested_one, attested_none, one_sent, attested_at, attested_first)

  -- a rule whose guard holds keeps the invariant
  pub keeps : (r : Rule) (m : Machine) → Holds network m → Guard network r m → Holds network (after network r m)
  keeps r m h g =
      search (std_rules, kept, actor, party_after, packets, rule_grows, now_sound, rule_all, now_attested)
