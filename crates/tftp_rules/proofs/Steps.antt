-- Small facts on rules: whose datagram one is, and the hosts. For 13 other files and the crates tftp_player and
-- tftp_promises.
use Rattle.tftp_rules.proofs.Common.{◌≡◌, List, refl, sym, true, [], false, ℕ, rules, ◌∷◌, arith, ◌∙◌, Some, Bool, ap}
use Rattle.tftp_rules.proofs.Common.{length, ◌+◌, ◌<◌, ◌≤◌, None, ◌*◌, not, take, std_rules, true≢false, Contains, ◌≢◌}
use Rattle.tftp_rules.proofs.Common.{block, Holds, HasReceived, IsSoundParty, Endpoint, Network, Message, Machine}
use Rattle.tftp_rules.proofs.Common.{Party, Elsewhere, At_server, At_client, IsNext}
use Rattle.tftp_rules.specs.Facts.{home}
use Rattle.tftp_rules.specs.MachineSafety.{Established}

-- twice negated is the same
pub not-not : (b : Bool) → not (not b) ≡ b
not-not true = refl
not-not false = refl

-- of no datagrams each has any property
pub none_sent : (P : Message → Type 0) (d : Message) → Contains [] d → P d
none_sent P d c = absurd (let h : c.0 < 0 = c.1 in omega arith)

-- if one datagram has a property, each of a list of it alone has it
pub one_sent : (P : Message → Type 0) (a : Message) → P a → (d : Message) → Contains (a ∷ []) d → P d
one_sent P a p d c = search rules

-- x, with another number and text, and how it ended
abbrev pub moved : Party → ℕ → Bool → Bool → List ℕ → Party
moved x number complete failed text =
    record x { number = number; complete = complete; failed = failed; text = text }

-- an end without blocks has received a beginning of any text
pub received_nothing : (x y : Party) → x.text ≡ [] → x.number ≡ 0 → x.complete ≡ false → HasReceived x y
received_nothing x y t n d = record {
  prefix = (y.text, rw t refl);
  whole = λ e. absurd (true≢false (sym e ∙ d));
  so_far = λ e f. let z : x.number * x.size ≡ 0 = rw n (omega arith) in t ∙ sym (ap (λ (k : ℕ). take k y.text) z);
  room = λ e. rw n (omega arith);
}

-- the next block of a receiver x
pub record GoesOn (x y : Party) (piece : List ℕ) : Type 0 where
  pub so_far : x.text ≡ take (x.number * x.size) y.text
  pub room : x.number * x.size ≤ length y.text
  pub bytes : piece ≡ block y.text x.size (x.number + 1)
  pub positive : 0 < x.size

module _ (network : Network) where
  -- a client's host is not elsewhere
  pub own_client : (a : Endpoint) → network.host_of a ≡ At_client → network.host_of a ≢ Elsewhere
  own_client a h e = let k : At_client ≡ Elsewhere = sym h ∙ e in cc

  -- the server's host is not elsewhere
  pub own_server : (a : Endpoint) → network.host_of a ≡ At_server → network.host_of a ≢ Elsewhere
  own_server a h e = let k : At_server ≡ Elsewhere = sym h ∙ e in cc

  home_own : (a : Endpoint) (c : Bool) → network.host_of a ≡ home c → network.host_of a ≢ Elsewhere
  home_own a true h = own_client a h
  home_own a false h = own_server a h

  home_client : (a : Endpoint) (c : Bool) → network.host_of a ≡ home c → network.host_of a ≡ At_server → c ≡ false
  home_client a true h s = let k : At_client ≡ At_server = sym h ∙ s in cc
  home_client a false h s = refl

  -- an open end is on one of the two hosts
  pub own_of : (m : Machine) → Holds network m → (a : Endpoint) → (m.party a).is_open ≡ true →
      network.host_of a ≢ Elsewhere
  own_of m h a o = home_own a (m.party a).client (h.ends a o).at_home

  -- an open end at the server's address is a server's end
  pub server_end : (m : Machine) → Holds network m → (a : Endpoint) → (m.party a).is_open ≡ true →
      network.host_of a ≡ At_server → (m.party a).client ≡ false
  server_end m h a o s = home_client a (m.party a).client (h.ends a o).at_home s

  -- two ends that have each other as peers have one size
  pub same_size : (m : Machine) → Holds network m → (x y : Endpoint) → Established m.party x y →
      (m.party x).size ≡ (m.party y).size
  same_size m h x y e = search rules

  -- an end that moves is consistent if its peer and its blocks are as the phase says
  pub IsSound-moves : (ends : Endpoint → Party) (a : Endpoint) (x : Party) (number : ℕ) (complete failed : Bool)
      (text : List ℕ) → IsSoundParty network ends a x →
      (x.peer ≡ None → (number ≡ 0) × (complete ≡ false) × (x.sender ≡ false → text ≡ [])) →
      (x.client ≡ false → x.sender ≡ true → x.plain ≡ false → 1 ≤ number → (p : Endpoint) → x.peer ≡ Some p →
      network.host_of p ≢ Elsewhere → (ends p).peer ≡ Some a) →
      (x.sender ≡ false → (p : Endpoint) → x.peer ≡ Some p → network.host_of p ≢ Elsewhere →
      HasReceived (moved x number complete failed text) (ends p)) →
      (complete ≡ true → (p : Endpoint) → x.peer ≡ Some p → network.host_of p ≢ Elsewhere → (ends p).peer ≡ Some a) →
      (x.sender ≡ true → complete ≡ true → (p : Endpoint) → x.peer ≡ Some p → network.host_of p ≢ Elsewhere →
      (ends p).complete ≡ true) → IsSoundParty network ends a (moved x number complete failed text)
  IsSound-moves ends a x number complete failed text h n b r u d = search rules

  -- what holds of the peer that an end has, if it is no stranger
  pub of_peer : (P : Endpoint → Type 0) (x : Party) (peer : Endpoint) → x.peer ≡ Some peer →
      (network.host_of peer ≢ Elsewhere → P peer) → (p : Endpoint) → x.peer ≡ Some p → network.host_of p ≢ Elsewhere →
      P p
  of_peer P x peer is h p e own = search std_rules

  -- a DATA of its peer with the next number carries the next block of its peer's text
  pub next_block : (m : Machine) → Holds network m → (at peer : Endpoint) (bytes : List ℕ) →
      IsNext m.sent (m.party at) at peer bytes → network.host_of peer ≢ Elsewhere →
      GoesOn (m.party at) (m.party peer) bytes
  next_block m h at peer bytes g o = search rules
