-- Which first answers a waiting client refuses. For the law a_client_ends_for_a_reason.
use Rattle.std.proofs.Common.{rules as std_rules}
use Rattle.tftp_promises.proofs.Common.{List, ℕ, ◌≡◌, rules, Endpoint, [], Some, inl, inr, ◌∷◌, false, true, None, Bool}
use Rattle.tftp_promises.proofs.Common.{EndState, ◌⊎◌, Option, true≢false, arith, length, if◌then◌else◌, is_sender}
use Rattle.tftp_promises.proofs.Common.{Mode, ◌==◌, cases_Bool, ◌≤◌, ◌<◌, Ok, IsBlockSize, Outcome, Action, Ack, Role}
use Rattle.tftp_promises.proofs.Common.{Respond, datagram_action, Known, ◌*◌, Terms, ◌&&◌, Error, Data}
use Rattle.tftp_promises.proofs.Common.{has_error_opcode, Result, Packet, Err, RawOption, nat_lt, Asked, size}
use Rattle.tftp_promises.proofs.Common.{DEFAULT_BLOCK, Refusal, ◌^◌, agreed_options, writer_action, WrongPeer, Ignore}
use Rattle.tftp_promises.proofs.Common.{is_none, Waiting, MAX_BLOCK, answer, agreement, accept_action, reader_action}
use Rattle.tftp_promises.proofs.Common.{begin_with_action, nat_le, next_action, data_action, same_address, ltb-true}
use Rattle.tftp_promises.proofs.Common.{Limits, asked_options, IfSome}
use Rattle.std.proofs.lemmas.Bool.{ltb-false, not-false}
use Rattle.tftp_negotiate.specs.declared.refusal.Refusal.TheVariants.{Repeated, TooLarge}
use Rattle.tftp_negotiate.specs.Options.{name_of, number_of}
use Rattle.tftp_negotiate.specs.Agreement.{taken, taken_option}
use Rattle.tftp_negotiate.specs.Asked.{IsFor}
use Rattle.tftp_negotiate.specs.Negotiation.{each_judged, kept_before}
use Rattle.tftp_negotiate.specs.declared.name.Name.{Name}
use Rattle.tftp_negotiate.proofs.LawsLemmas.{ends_agree}
use Rattle.tftp_ends.specs.Opening.{asked_size}
use Rattle.tftp_promises.proofs.FirstRefused.{ClosesBy}
use Rattle.tftp_negotiate.specs.declared.refusal.Refusal.TheVariants as refusals
use Rattle.tftp_ends.specs.declared.outcome.Outcome.TheVariants as outcomes
use Rattle.tftp_negotiate.specs.declared.known.Kind.TheVariants as kinds

module _ (o : Outcome) where
  -- of two actions
  pub closes_if : (b : Bool) (one two : Action) → ClosesBy o (if b then one else two) →
      ((b ≡ true) × ClosesBy o one) ⊎ ((b ≡ false) × ClosesBy o two)
  closes_if b one two h = search rules

  -- ---- what a waiting client does at a datagram
  abbrev pub waiting_as : Role → Asked → ℕ → Endpoint → Option Packet → Action
  waiting_as role asked limit from decoded =
      if is_sender role.side then writer_action role.mode asked limit role.length from decoded
      else reader_action role.mode asked limit from decoded

  -- what is known if it closes
  pub record ClosesAt (role : Role) (asked : Asked) (limit : ℕ) (to from : Endpoint) (bytes : List ℕ)
      (decoded : Option Packet) : Type 0 where
    pub near : same_address to from ≡ true
    pub by : ((has_error_opcode bytes && is_none decoded) ≡ true) ⊎ ClosesBy o (waiting_as role asked limit from decoded)

  no_stranger : {P : Type 0} (b : Bool) → ClosesBy o (if b then Respond Ignore else Respond WrongPeer) → P
  no_stranger b h = search rules

  pub closes_at : (e : EndState) (asked : Asked) (limit : ℕ) (to from : Endpoint) (bytes : List ℕ)
      (decoded : Option Packet) → e.position.phase ≡ Waiting asked limit → e.position.last_sent_to ≡ to →
      ClosesBy o (datagram_action e from bytes decoded) → ClosesAt e.role asked limit to from bytes decoded
  closes_at e asked limit to from bytes decoded phase to_is h = search (rules, closes_if, not-false, no_stranger)

  -- a packet is not garbled
  pub of_packet : (role : Role) (asked : Asked) (limit : ℕ) (to from : Endpoint) (bytes : List ℕ) (p : Packet)
      (decoded : Option Packet) → decoded ≡ Some p → ClosesAt role asked limit to from bytes decoded →
      ClosesBy o (waiting_as role asked limit from (Some p))
  of_packet role asked limit to from bytes p decoded is h = search rules

  -- an ERROR closes it as what it is
  pub error_closes : (role : Role) (asked : Asked) (limit : ℕ) (from : Endpoint) (code : ℕ) (text : List ℕ) →
      ClosesBy o (waiting_as role asked limit from (Some (Error code text))) → outcomes.PeerError code ≡ o
  error_closes role asked limit from code text h = search rules

  -- ---- a block
  next_never : {P : Type 0} (mode : Mode) (terms : Terms) (number : ℕ) (piece : List ℕ) →
      ClosesBy o (next_action mode [] terms number piece) → P
  next_never mode terms number piece h = search (rules, closes_if)

  data_never : {P : Type 0} (mode : Mode) (terms : Terms) (number : ℕ) (piece : List ℕ) →
      ClosesBy o (data_action mode [] terms 0 number piece) → P
  data_never mode terms number piece h = search (rules, closes_if, next_never)

  -- DATA 1 of at most 512 bytes does not close a reader that has no peer
  pub first_never : {P : Type 0} (mode : Mode) (asked : Asked) (limit : ℕ) (from : Endpoint) (number : ℕ) (piece : List ℕ) →
      (number == 1 && nat_le (length piece) DEFAULT_BLOCK) ≡ true →
      ClosesBy o (reader_action mode asked limit from (Some (Data number piece))) → P
  first_never mode asked limit from number piece fits h = search (rules, closes_if, data_never, true≢false)

  pub ack_closes : (mode : Mode) (asked : Asked) (limit count : ℕ) (from : Endpoint) (number : ℕ) → (number == 0) ≡ true →
      ClosesBy o (writer_action mode asked limit count from (Some (Ack number))) →
      (outcomes.TooLarge ≡ o) × (65535 * DEFAULT_BLOCK ≤ count)
  ack_closes mode asked limit count from number zero h = search rules

  -- ---- an OACK whose options it accepts, or whose length is more than it accepts
  pub accept_closes : (from : Endpoint) (result : Result (List Known) Refusal) (known : List Known) →
      (result ≡ Ok known) ⊎ (result ≡ Err refusals.TooLarge) → ClosesBy o (accept_action from result) →
      (outcomes.TooLarge ≡ o) × (result ≡ Err refusals.TooLarge)
  accept_closes from result known h3 h = search rules

  pub begin_with_closes : (from : Endpoint) (count : ℕ) (result : Result (List Known) Refusal) (known : List Known) →
      result ≡ Ok known → ClosesBy o (begin_with_action from count result) →
      (outcomes.TooLarge ≡ o) × (65535 * size known ≤ count)
  begin_with_closes from count result known same h = search rules

-- A client accepts the options that a server answers to its request, unless the file is longer than it accepts.
-- For the law a_client_ends_for_a_reason.

-- ---- a lower limit refuses a longer file, and nothing else
module _ (asked : Asked) (mode : Mode) (limit more : ℕ) where
  -- the same, or refused as too large
  abbrev SameOr : {A : Type 0} → A → Result A Refusal → Type 0
  SameOr v result = (result ≡ Ok v) ⊎ (result ≡ Err TooLarge)

  by_name : (name : Option Name) (value : Option ℕ) (v : Option Known) →
      taken asked kinds.Read mode more name value ≡ Ok v → SameOr v (taken asked kinds.Read mode limit name value)
  by_name name value v e = search rules

  by_option : (o : RawOption) (v : Option Known) → taken_option asked kinds.Read mode more o ≡ Ok v →
      SameOr v (taken_option asked kinds.Read mode limit o)
  unfolding taken_option
  by_option o v e = by_name (name_of o.name) (number_of o.value) v e

  both : (one : Result (Option Known) Refusal) (others : Result (List Known) Refusal) (ks : List Known) →
      kept_before one others ≡ Ok ks →
      (v : Option Known) × (rest : List Known) × (one ≡ Ok v) × (others ≡ Ok rest) × (kept_before (Ok v) (Ok rest) ≡ Ok ks)
  both one others ks e = search rules

  joined : (v : Option Known) (rest ks : List Known) (one : Result (Option Known) Refusal)
      (others : Result (List Known) Refusal) → kept_before (Ok v) (Ok rest) ≡ Ok ks → SameOr v one → SameOr rest others →
      SameOr ks (kept_before one others)
  joined v rest ks one others all h6 h7 = search rules

  each : (options : List RawOption) (ks : List Known) → each_judged (taken_option asked kinds.Read mode more) options ≡ Ok ks →
      SameOr ks (each_judged (taken_option asked kinds.Read mode limit) options)
  each [] ks e = inl e
  each (o ∷ options) ks e =
      let parts =
      both (taken_option asked kinds.Read mode more o) (each_judged (taken_option asked kinds.Read mode more) options) ks
      e in
      joined parts.0 parts.1 ks (taken_option asked kinds.Read mode limit o)
      (each_judged (taken_option asked kinds.Read mode limit) options) parts.4 (by_option o parts.0 parts.2)
      (each options parts.1 parts.3)

  unless_repeated : (b : Bool) (one other : Result (List Known) Refusal) (ks : List Known) →
      (one ≡ Ok ks → SameOr ks other) → (if b then Err Repeated else one) ≡ Ok ks →
      SameOr ks (if b then Err Repeated else other)
  unless_repeated b one other ks to e = search rules

  limited : (options : List RawOption) (ks : List Known) → agreement asked kinds.Read mode options more ≡ Ok ks →
      SameOr ks (agreement asked kinds.Read mode options limit)
  limited options ks e = search (std_rules, unless_repeated, each)

-- ---- of a read
pub read_taken : (asked : Asked) (mode : Mode) (measured limit : ℕ) (limits : Limits) (known : List Known) →
    IsFor asked kinds.Read mode 0 → measured < 2 ^ 64 → IsBlockSize limits.max_block →
    answer (asked_options asked mode) kinds.Read mode measured limits ≡ Ok known →
    (agreement asked kinds.Read mode (agreed_options known) limit ≡ Ok known)
    ⊎ ((limit < measured) × (agreement asked kinds.Read mode (agreed_options known) limit ≡ Err TooLarge))
read_taken asked mode measured limit limits known for fits max e = elim (cases_Bool (nat_lt limit measured)) [
  | inl longer ↦
      let all =
      ends_agree asked kinds.Read mode 0 measured measured limits known for
      (record { client_fits = omega arith; length_fits = fits; within = λ _. omega arith }) max e in
      elim (limited asked mode limit measured (agreed_options known) known all) [
        | inl same ↦ inl same
        | inr large ↦ inr (ltb-true limit measured longer, large)
      ]
  | inr within ↦
      let few : measured ≤ limit = ltb-false limit measured within in
      inl
      (ends_agree asked kinds.Read mode 0 measured limit limits known for
      (record { client_fits = omega arith; length_fits = fits; within = λ _. few }) max e)
]

-- ---- of a write
block_in : (o : Option ℕ) → IfSome o IsBlockSize → asked_size o ≤ MAX_BLOCK
block_in None within = omega arith
block_in (Some n) within = within.1

pub write_taken : (asked : Asked) (mode : Mode) (length limit : ℕ) (limits : Limits) (known : List Known) →
    IsFor asked kinds.Write mode length → length < 65535 * asked_size asked.blksize → IsBlockSize limits.max_block →
    answer (asked_options asked mode) kinds.Write mode 0 limits ≡ Ok known →
    agreement asked kinds.Write mode (agreed_options known) limit ≡ Ok known
write_taken asked mode length limit limits known for fits max e = search (std_rules, block_in, ends_agree)
