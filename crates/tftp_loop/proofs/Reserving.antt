-- What is reserved at the start suffices: for the port of each transfer, and for each ERROR. For five functions.
use Rattle.std.proofs.Common.{rules}
use Rattle.tftp_loop.proofs.Common.{arith, ◌≡◌, ◌≤◌, ◌<◌, ◌⊎◌, ◌||◌, ℕ, suc, Bool, true, false, List, [], ◌∷◌, length}
use Rattle.tftp_loop.proofs.Common.{map, Option, None, IsSome, refl, sym, inr, Err, Result, All, if◌then◌else◌}
use Rattle.tftp_loop.proofs.Common.{slice_index_or, AllByRecursion, list_any, nat_cmp, true≢false, length-map}
use Rattle.tftp_loop.proofs.Common.{has_error_opcode, Packet, Limits, SourceMeaning, StoreFault, Endpoint, StoreMeaning}
use Rattle.tftp_loop.proofs.Common.{Ask, Ignores, CarriesOut, Left, ServerState, TransferState, at, Config}
use Rattle.tftp_loop.proofs.Common.{HavePortsApart, AreKept, IsHeld, Timer}
use Rattle.std.specs.List.{IsDistinct}
use Rattle.std.specs.Cmp.{eq_by_cmp_equiv, nat_cmp_total}
use Rattle.std.specs.Ordering.{eq_by_cmp}
use Rattle.std.proofs.lemmas.Map.Steps.{length-le_from_keys}
use Rattle.tftp_file.specs.declared.fault.StoreFault.TheVariants as stores
use Rattle.tftp_server.specs.Port.{asks_store, by_packet}
use Rattle.tftp_server.specs.Request.{Admits, AdmissionState}
use Rattle.tftp_server.specs.Shortage.{AskLacksMemory}
use Rattle.tftp_server.specs.declared.fault.ServerFault.{ServerFault}
use Rattle.tftp_server.specs.declared.fault.ServerFault.TheVariants.{TidInUse, Memory}
use Rattle.tftp_loop.specs.declared.reserved.TheConstants.{LONGEST_ANSWER}
use Rattle.tftp_loop.specs.LoopStates.{RoomFor, IsAdmission}
use Rattle.tftp_loop.specs.MayOpen.{LacksMemoryToOpen}
use Rattle.tftp_loop.proofs.RequestRuns.{admits_set}
use Rattle.tftp_loop.proofs.Tables.{compares}

-- ---- an answer has room
-- what lacks memory in a buffer lacks it in a shorter one
module _ (less capacity used : ℕ) (fits : less ≤ capacity) (empty : used ≡ 0) where
  module _ {S F D : Type 0} (meaning : StoreMeaning S D) (sources : SourceMeaning F) (old : ServerState S F D) where
    ask_lacks : (ask : Ask) → AskLacksMemory capacity used meaning sources old ask
        → AskLacksMemory less 0 meaning sources old ask
    ask_lacks ask lacks = search rules

module _ {S F D : Type 0} (meaning : StoreMeaning S D) (sources : SourceMeaning F) where
  -- an admission that was not carried out, by the server whose store was set
  pub lacks_to_open : (before server : ServerState S F D) (from : Endpoint) (bytes : List ℕ)
      (admission : AdmissionState) (capacity used : ℕ) → server ≡ record before { store = server.store }
      → IsAdmission before from bytes admission → used ≡ 0 → LONGEST_ANSWER ≤ capacity
      → AskLacksMemory capacity used meaning sources server admission.ask →
      LacksMemoryToOpen meaning sources server from bytes
  lacks_to_open before server from bytes admission capacity used rest admitted empty fits lacks =
      inr (
        admission.ask,
        admits_set meaning sources before server from bytes admission.ask rest admitted.admits,
        ask_lacks LONGEST_ANSWER capacity used fits empty meaning sources server admission.ask lacks,
      )

abbrev failed : {A : Type 0} → ServerFault → Result A ServerFault
failed fault = Err fault

-- a fault is out of memory, if no transfer has the port
pub memory_if_free : {T A : Type 0} (o : Option T) (fault : ServerFault) → o ≡ None
    → (failed {A = A} fault ≡ failed TidInUse → IsSome o) → (fault ≡ TidInUse) ⊎ (fault ≡ Memory)
    → failed {A = A} fault ≡ failed Memory
memory_if_free o fault free in_use fails = search rules

-- ---- a port has room
module _ (cap count : ℕ) where
  packet_below : (repeated : Bool) (limits : Limits) (packet : Option Packet) →
      asks_store (by_packet cap count repeated limits packet) ≡ true → count < cap
  packet_below repeated limits packet asks = search rules

  opcode_below : (is_error repeated : Bool) (limits : Limits) (packet : Option Packet) →
      asks_store (if is_error then Ignores else by_packet cap count repeated limits packet) ≡ true → count < cap
  opcode_below is_error repeated limits packet asks = search (rules, true≢false, packet_below)

abbrev same_key : ℕ → ℕ → Bool
same_key = eq_by_cmp nat_cmp

not_same : (p q : ℕ) (same : Bool) → same_key p q ≡ same → (p ≡ q → ⊥) → same ≡ false
not_same p q true is apart = absurd (apart (compares p q (nat_cmp p q) refl is))
not_same p q false is apart = refl

first_apart : (p : ℕ) (timers : List Timer)
    → ((k : ℕ) (d : Timer) → k < length timers → p ≡ (slice_index_or timers k d).port → ⊥)
    → AllByRecursion (λ (q : ℕ). same_key p q ≡ false) (map (λ (t : Timer). t.port) timers)
first_apart p [] apart = tt
first_apart p (t ∷ timers) apart = (
  not_same p t.port (same_key p t.port) refl (apart 0 t (omega arith)),
  first_apart p timers (λ k d h. apart (suc k) d (omega (arith, h))),
)

keys_apart : (timers : List Timer) → HavePortsApart timers → IsDistinct same_key (map (λ (t : Timer). t.port) timers)
unfolding IsDistinct
keys_apart [] apart = tt
keys_apart (t ∷ timers) apart = (
  first_apart t.port timers
      (λ k d h same. let e = apart 0 (suc k) d d (omega arith) (omega (arith, h)) same in omega (arith, e)),
  keys_apart timers (λ j k d e hj hk same.
      let i = apart (suc j) (suc k) d e (omega (arith, hj)) (omega (arith, hk)) same in omega (arith, i)),
)

module _ {F D : Type 0} (held : List (ℕ × TransferState F D)) where
  first_held : (t : Timer) (q : ℕ) (same more : Bool) → same_key q t.port ≡ same → IsSome (at t.port held)
      → (more ≡ true → IsSome (at q held)) → (same || more) ≡ true → IsSome (at q held)
  first_held t q same more is here rest among = search rules

  key_held : (timers : List Timer) → All (IsHeld held) timers → (q : ℕ)
      → list_any (same_key q) (map (λ (t : Timer). t.port) timers) ≡ true → IsSome (at q held)
  key_held [] each q among = absurd (true≢false (sym among))
  key_held (t ∷ timers) each q among =
      first_held t q (same_key q t.port) (list_any (same_key q) (map (λ (t : Timer). t.port) timers)) refl
      (each 0 t (omega arith)).there (key_held timers (λ k d h. each (suc k) d (omega (arith, h))) q) among

  -- each transfer has one timer at most
  few_timers : (timers : List Timer) → AreKept held timers → length timers ≤ length held
  few_timers timers kept =
      let few =
      length-le_from_keys (eq_by_cmp_equiv nat_cmp_total) (map (λ (t : Timer). t.port) timers) held
      (keys_apart timers kept.apart) (key_held timers kept.each) in
      let same = length-map timers (λ (t : Timer). t.port) in
      omega (arith, few, same)

module _ {S F D : Type 0} where
  -- a request that may open a transfer has a port in reserve
  pub has_reserved : (server : ServerState S F D) (from : Endpoint) (bytes : List ℕ) (ask : Ask) (timers : List Timer)
      (capacity : ℕ) → Admits server from bytes ask → asks_store ask ≡ true → AreKept server.held timers
      → server.config.cap ≤ capacity → length timers < capacity
  has_reserved server from bytes ask timers capacity admits asks kept room =
      search (rules, opcode_below, length, has_error_opcode, few_timers)

-- ---- what is reserved stays
-- by a server with the same configuration
pub room_same : {before after : Config} {ports answer : ℕ} → after ≡ before → RoomFor before.cap ports answer
    → RoomFor after.cap ports answer
room_same {ports = ports} {answer = answer} same room = search rules

-- in an answer that has grown
pub room_grown : {cap ports before after : ℕ} → before ≤ after → RoomFor cap ports before → RoomFor cap ports after
room_grown grown room = search rules

module _ {S F D : Type 0} (meaning : StoreMeaning S D) (sources : SourceMeaning F) where
  -- an admission that was carried out leaves the configuration
  pub carried_config : (old : ServerState S F D) (from : Endpoint) (bytes : List ℕ) (ask : Ask) (tid : ℕ)
      (left : Left S F D) → CarriesOut meaning sources old from bytes ask tid left → left.new.config ≡ old.config
  carried_config old from bytes ask tid left carries = search rules
