-- Bytes that spell a packet have no fault and decode to it; bytes without a fault spell a packet. For six functions
-- and four other crates.
use Rattle.std.proofs.lemmas.Grind.{common_steps}
use Rattle.std.proofs.Common.{ℕ, ◌≡◌, ◌≢◌, ◌+◌, ◌<◌, ◌≤◌, ◌^◌, ◌⊎◌, Bool, true, false, cond, eqb, ltb, ⊎_elim, inl, inr}
use Rattle.std.proofs.Common.{refl, ap, sym, ◌∙◌, arith, List, [], ◌∷◌, ◌++◌, length, get_or, drop, None, is_none}
use Rattle.std.proofs.Common.{unwrap_or, rules, Result, Ok, Err, IfOk, IfErr, IsOkAnd, MatchResult}
use Rattle.std.specs.Borrow.{Bor}
use Rattle.std.specs.List.{AllByRecursion, flat_map}
use Rattle.std.specs.Char.{to_ascii_lowercase}
use Rattle.std.specs.Str.{str_to_ascii_lowercase}
use Rattle.std.proofs.lemmas.Bool.{le-ltb, ltb-false, eqb-false, eqb-true, ne_eqb}
use Rattle.std.proofs.lemmas.List.{append-nil, append_assoc, length-append, length-map, length-drop, get_or-drop}
use Rattle.std.proofs.Math.ListN.{drop_of_length-le}
use Rattle.byteorder.specs.Endian.{big_bytes, big_number}
use Rattle.byteorder.specs.Numbers.{big_number-reads_back}
use Rattle.tftp_wire.specs.declared.fault.PacketFault.{PacketFault}
use Rattle.tftp_wire.specs.declared.limits.TheConstants.{MAX_DATA, MAX_REQUEST}
use Rattle.tftp_wire.specs.declared.mode.Mode.{Mode}
use Rattle.tftp_wire.specs.declared.mode.Mode.TheVariants.{Octet, Netascii}
use Rattle.tftp_wire.specs.declared.options.RawOption.{RawOption}
use Rattle.tftp_wire.specs.declared.packet.Packet.{Packet}
use Rattle.tftp_wire.specs.declared.packet.Packet.TheVariants.{Read, Write, Data, Ack, Error, Oack}
use Rattle.tftp_wire.specs.declared.packet.Request.{Request}
use Rattle.tftp_wire.specs.Texts.{IsText, zero_ended, texts, unended}
use Rattle.tftp_wire.specs.Options.{IsOption, options_bytes, paired, options_in}
use Rattle.tftp_wire.specs.Modes.{mode_word}
use Rattle.tftp_wire.specs.Spelling.{request_bytes, written, IsRequest, IsValid, Spells}
use Rattle.tftp_wire.specs.Reading.{mode_in, options_fault, texts_fault, request_fault, data_fault, ack_fault}
use Rattle.tftp_wire.specs.Reading.{error_fault, oack_fault, message_fault, opcode_fault, first_fault, starts_as_data}
use Rattle.tftp_wire.specs.Parts.{request_of, first_of, packet_of, packet_in, Reads}
use Rattle.tftp_wire.specs.Laws.{FaultWhereNothing, OneMeaning, SpelledHasNoFault, SpelledIsFound}
use Rattle.tftp_wire.specs.Borrowed.{owned}
use Rattle.tftp_wire.specs.Faults.{out_of_memory, IsFailure}
use Rattle.tftp_wire.specs.declared.packet.PacketRef.{PacketRef}
use Rattle.tftp_wire.proofs.TextsLemmas.{texts_first, unended_rest}
use Rattle.tftp_wire.proofs.ReadingLemmas.{guard_none, texts_joined, texts_each, options_whole, options_fine}

-- ---- the words of modes

lower_text : (word : List ℕ) → IsText (str_to_ascii_lowercase word) → IsText word
lower_text [] h = tt
lower_text (b ∷ word) h = ((λ e. h.0 (ap to_ascii_lowercase e)), lower_text word h.1)

mode_text : (mode : Mode) → IsText (mode_word mode)
mode_text Octet = search rules
mode_text Netascii = search rules

word_text : (mode : Mode) (word : List ℕ) → str_to_ascii_lowercase word ≡ mode_word mode → IsText word
word_text mode word h = lower_text word (rw h (mode_text mode))

word_of_mode : (word : List ℕ) → is_none (mode_in word) ≡ false
    → str_to_ascii_lowercase word ≡ mode_word (unwrap_or (mode_in word) Octet)
word_of_mode word h = search rules

-- ---- bytes that spell a packet have no fault, and decode to it

options_spelled : (at : ℕ) (os : List RawOption) → AllByRecursion IsOption os
    → (options_fault at (texts (options_bytes os)) (unended (options_bytes os)) ≡ None)
    × (paired (texts (options_bytes os)) ≡ os)
options_spelled at [] h = (refl, refl)
options_spelled at (o ∷ os) h =
    let more = options_bytes os in
    let whole = append_assoc (zero_ended o.name) (zero_ended o.value) more in
    let t : texts (options_bytes (o ∷ os)) ≡ o.name ∷ o.value ∷ texts more =
    ap texts whole ∙ texts_first o.name (zero_ended o.value ++ more) h.0.name ∙ ap (λ ts. o.name ∷ ts) (texts_first
    o.value more h.0.value) in
    let u : unended (options_bytes (o ∷ os)) ≡ unended more =
    ap unended whole ∙ unended_rest o.name (zero_ended o.value ++ more) h.0.name ∙ unended_rest o.value more h.0.value
    in
    let r = options_spelled (at + (length o.name + 1) + (length o.value + 1)) os h.1 in search rules

request_spelled : (opcode : ℕ) (word : List ℕ) (r : Request) → IsRequest r
    → str_to_ascii_lowercase word ≡ mode_word r.mode → length (request_bytes opcode word r) ≤ MAX_REQUEST
    → (request_fault (request_bytes opcode word r) ≡ None)
    × (request_of (texts (drop 2 (request_bytes opcode word r))) ≡ r)
request_spelled opcode word r v m limit =
    let more = options_bytes r.options in
    let body = zero_ended r.name ++ (zero_ended word ++ more) in
    let w = word_text r.mode word m in
    let t : texts body ≡ r.name ∷ word ∷ texts more =
    texts_first r.name (zero_ended word ++ more) v.name ∙ ap (λ ts. r.name ∷ ts) (texts_first word more w) in
    let u : unended body ≡ unended more =
    unended_rest r.name (zero_ended word ++ more) v.name ∙ unended_rest word more w in
    let o = options_spelled (2 + (length r.name + 1) + (length word + 1)) r.options v.options in search rules steps
    1000000

-- the opcode decides
head_decides : (bytes : List ℕ) (opcode : ℕ) → 2 ≤ length bytes → big_number 2 bytes ≡ opcode
    → (first_fault bytes ≡ opcode_fault opcode bytes) × (packet_in bytes ≡ packet_of opcode bytes)
head_decides bytes opcode least e = (rw (le-ltb (length bytes) 2 least, e) refl, rw e refl)

request_length : (opcode : ℕ) (word other : List ℕ) (r : Request) → length word ≡ length other
    → length (request_bytes opcode word r) ≡ length (request_bytes opcode other r)
request_length opcode word other r e = simp length-append (omega arith)

word_length : (word other : List ℕ) → str_to_ascii_lowercase word ≡ other → length word ≡ length other
word_length word other h = sym (length-map word to_ascii_lowercase) ∙ ap length h

requests_spelled : (opcode : ℕ) (word : List ℕ) (r : Request) → IsRequest r
    → length (request_bytes opcode (mode_word r.mode) r) ≤ MAX_REQUEST → str_to_ascii_lowercase word ≡ mode_word r.mode
    → (request_fault (request_bytes opcode word r) ≡ None)
    × (request_of (texts (drop 2 (request_bytes opcode word r))) ≡ r)
requests_spelled opcode word r v limit m =
    let e = request_length opcode word (mode_word r.mode) r (word_length word (mode_word r.mode) m) in
    request_spelled opcode word r v m (omega arith)

data_spelled : (block : ℕ) (bytes : List ℕ) → IsValid (Data block bytes) → let all = written [] (Data block bytes) in
    (data_fault all ≡ None) × (big_number 2 (drop 2 all) ≡ block)
data_spelled block bytes v = search rules

error_spelled : (code : ℕ) (text : List ℕ) → IsValid (Error code text) → let all = written [] (Error code text) in
    (error_fault all ≡ None) × (big_number 2 (drop 2 all) ≡ code) × (first_of (texts (drop 4 all)) ≡ text)
error_spelled code text v =
    let all = written [] (Error code text) in
    let number = big_number-reads_back 2 code (zero_ended text) v.0 in
    let least : 4 ≤ length all = omega arith in
    let t = ap texts (sym (append-nil (zero_ended text))) ∙ texts_first text [] v.1 in
    let u = ap unended (sym (append-nil (zero_ended text))) ∙ unended_rest text [] v.1 in
    (rw (le-ltb MAX_REQUEST (length all) v.2, le-ltb (length all) 4 least, t, u) refl, number, rw t refl)

options_longer : (os : List RawOption) → os ≢ [] → length (options_bytes os) ≢ 0
options_longer [] h e = h refl
options_longer (o ∷ os) h e = grind (arith, common_steps)

oack_spelled : (os : List RawOption) → IsValid (Oack os) → let all = written [] (Oack os) in
    (oack_fault all ≡ None) × (options_in (drop 2 all) ≡ os)
oack_spelled os v =
    let all = written [] (Oack os) in
    let o = options_spelled 2 os v.1 in
    let longer = options_longer os v.0 in
    let more : length all ≢ 2 = λ e. longer (omega arith) in
    (rw (le-ltb MAX_REQUEST (length all) v.2, ne_eqb (length all) 2 more) o.0, o.1)

-- bytes that spell a packet have no fault, and `packet_in` computes it
spelled_holds : (p : Packet) (bytes : List ℕ) → Spells p bytes → (first_fault bytes ≡ None) × (packet_in bytes ≡ p)
spelled_holds (Read r) bytes s =
    let q = requests_spelled 1 s.word r s.valid.0 s.valid.1 s.mode in
    let h = head_decides (written s.word (Read r)) 1 (omega arith) refl in
    rw s.whole (h.0 ∙ q.0, h.1 ∙ ap Read q.1)
spelled_holds (Write r) bytes s =
    let q = requests_spelled 2 s.word r s.valid.0 s.valid.1 s.mode in
    let h = head_decides (written s.word (Write r)) 2 (omega arith) refl in
    rw s.whole (h.0 ∙ q.0, h.1 ∙ ap Write q.1)
spelled_holds (Data block held) bytes s =
    let q = data_spelled block held s.valid in
    let h = head_decides (written s.word (Data block held)) 3 (omega arith) refl in
    rw s.whole (h.0 ∙ q.0, h.1 ∙ ap (λ n. Data n held) q.1)
spelled_holds (Ack block) bytes s =
    let h = head_decides (written s.word (Ack block)) 4 (omega arith) refl in
    rw s.whole (h.0, h.1 ∙ ap Ack (big_number-reads_back 2 block [] s.valid))
spelled_holds (Error code text) bytes s =
    let q = error_spelled code text s.valid in
    let h = head_decides (written s.word (Error code text)) 5 (omega arith) refl in
    rw s.whole (h.0 ∙ q.0, h.1 ∙ ap (λ n. Error n (first_of (texts (zero_ended text)))) q.1 ∙ ap (Error code) q.2)
spelled_holds (Oack os) bytes s =
    let q = oack_spelled os s.valid in
    let h = head_decides (written s.word (Oack os)) 6 (omega arith) refl in
    rw s.whole (h.0 ∙ q.0, h.1 ∙ ap Oack q.1)

-- bytes that spell a packet have no fault
pub spelled_has_no_fault : SpelledHasNoFault
spelled_has_no_fault p bytes s = (spelled_holds p bytes s).0

-- and are decoded to it
pub spelled_is_found : SpelledIsFound
spelled_is_found p bytes s = (spelled_holds p bytes s).1

-- bytes spell one packet at most
pub one_meaning : OneMeaning
one_meaning p q bytes s t = sym (spelled_is_found p bytes s) ∙ spelled_is_found q bytes t

-- ---- bytes without a fault spell a packet

chosen : {X : Type 0} (b : Bool) (x y z : X) → cond b x y ≡ z → ((b ≡ true) × (x ≡ z)) ⊎ ((b ≡ false) × (y ≡ z))
chosen true x y z h = inl (refl, h)
chosen false x y z h = inr (refl, h)

-- two bytes are the number that they spell
number_back : (bytes : List ℕ) → 2 ≤ length bytes → ((k : ℕ) → get_or bytes k 0 < 256)
    → bytes ≡ big_bytes 2 (big_number 2 bytes) ++ drop 2 bytes
number_back bytes l h = search rules

named : (c : ℕ) (name : List ℕ) → (c ∷ name) ≢ []
named c name h = cc

-- the texts of a request without a fault
pub record Whole (ts : List (List ℕ)) (u : List ℕ) : Type 0 where
  pub word : List ℕ
  pub request : IsRequest (request_of ts)
  pub mode : str_to_ascii_lowercase word ≡ mode_word (request_of ts).mode
  pub all : flat_map zero_ended ts ++ u
      ≡ zero_ended (request_of ts).name ++ (zero_ended word ++ options_bytes (request_of ts).options)

texts_whole : (ts : List (List ℕ)) (u : List ℕ) → AllByRecursion IsText ts → texts_fault ts u ≡ None → Whole ts u
texts_whole [] u t h = absurd (cc)
texts_whole ([] ∷ ts) u t h = absurd (cc)
texts_whole ((c ∷ name) ∷ []) u t h = absurd (cc)
texts_whole ((c ∷ name) ∷ word ∷ ts) u t h =
    search (rules, guard_none, options_whole, named, word_of_mode, append-nil)

request_whole : (opcode : ℕ) (bytes : List ℕ) → bytes ≡ big_bytes 2 opcode ++ drop 2 bytes → request_fault bytes ≡ None
    → (w : Whole (texts (drop 2 bytes)) (unended (drop 2 bytes)))
    × (bytes ≡ request_bytes opcode w.word (request_of (texts (drop 2 bytes)))) × (length bytes ≤ MAX_REQUEST)
request_whole opcode bytes start h =
    let g = guard_none (ltb MAX_REQUEST (length bytes)) _ _ h in
    let w = texts_whole (texts (drop 2 bytes)) (unended (drop 2 bytes)) (texts_each (drop 2 bytes)) g.1 in
    (w, start ∙ ap (λ body. big_bytes 2 opcode ++ body) (sym (texts_joined (drop 2 bytes)) ∙ w.all), ltb-false _ _ g.0)

read_whole : (bytes : List ℕ) → bytes ≡ big_bytes 2 1 ++ drop 2 bytes → request_fault bytes ≡ None
    → Spells (Read (request_of (texts (drop 2 bytes)))) bytes
read_whole bytes start h =
    let w = request_whole 1 bytes start h in
    grind (arith, common_steps)

write_whole : (bytes : List ℕ) → bytes ≡ big_bytes 2 2 ++ drop 2 bytes → request_fault bytes ≡ None
    → Spells (Write (request_of (texts (drop 2 bytes)))) bytes
write_whole bytes start h =
    let w = request_whole 2 bytes start h in
    grind (arith, common_steps)

-- the second number too
second_back : (opcode : ℕ) (bytes : List ℕ) → bytes ≡ big_bytes 2 opcode ++ drop 2 bytes → 4 ≤ length bytes
    → ((k : ℕ) → get_or bytes k 0 < 256)
    → (bytes ≡ big_bytes 2 opcode ++ (big_bytes 2 (big_number 2 (drop 2 bytes)) ++ drop 4 bytes))
    × (big_number 2 (drop 2 bytes) < 2 ^ 16)
second_back opcode bytes start least h =
    let rest = drop 2 bytes in
    let small : (k : ℕ) → get_or rest k 0 < 256 = λ k. rw get_or-drop (h (2 + k)) in
    let two : 2 ≤ length rest = omega (arith, length-drop 2 bytes) in search rules

data_whole : (bytes : List ℕ) → bytes ≡ big_bytes 2 3 ++ drop 2 bytes → ((k : ℕ) → get_or bytes k 0 < 256)
    → data_fault bytes ≡ None → Spells (packet_of 3 bytes) bytes
data_whole bytes start h f =
    let most = guard_none (ltb MAX_DATA (length bytes)) _ _ f in
    let least = guard_none (ltb (length bytes) 4) _ _ most.1 in
    let zero = guard_none (eqb (big_number 2 (drop 2 bytes)) 0) _ _ least.1 in
    let l : 4 ≤ length bytes = ltb-false _ _ least.0 in
    let m : length bytes ≤ MAX_DATA = ltb-false _ _ most.0 in
    let s = second_back 3 bytes start l h in
    search rules

ack_whole : (bytes : List ℕ) → bytes ≡ big_bytes 2 4 ++ drop 2 bytes → ((k : ℕ) → get_or bytes k 0 < 256)
    → ack_fault bytes ≡ None → Spells (packet_of 4 bytes) bytes
ack_whole bytes start h f =
    let least = guard_none (ltb (length bytes) 4) _ _ f in
    let most = guard_none (ltb 4 (length bytes)) _ _ least.1 in
    let l : 4 ≤ length bytes = ltb-false _ _ least.0 in
    let m : length bytes ≤ 4 = ltb-false _ _ most.0 in
    let s = second_back 4 bytes start l h in
    let e : drop 4 bytes ≡ [] = drop_of_length-le bytes m in
    search rules

message_whole : (ts : List (List ℕ)) (u : List ℕ) → AllByRecursion IsText ts → message_fault ts u ≡ None
    → IsText (first_of ts) × (flat_map zero_ended ts ++ u ≡ zero_ended (first_of ts))
message_whole ts u t h = search rules

error_whole : (bytes : List ℕ) → bytes ≡ big_bytes 2 5 ++ drop 2 bytes → ((k : ℕ) → get_or bytes k 0 < 256)
    → error_fault bytes ≡ None → Spells (packet_of 5 bytes) bytes
error_whole bytes start h f =
    let most = guard_none (ltb MAX_REQUEST (length bytes)) _ _ f in
    let least = guard_none (ltb (length bytes) 4) _ _ most.1 in
    let l : 4 ≤ length bytes = ltb-false _ _ least.0 in
    let m : length bytes ≤ MAX_REQUEST = ltb-false _ _ most.0 in
    let s = second_back 5 bytes start l h in
    let t = message_whole (texts (drop 4 bytes)) (unended (drop 4 bytes)) (texts_each (drop 4 bytes)) least.1 in
    let whole =
    s.0
    ∙ ap (λ r. big_bytes 2 5 ++ (big_bytes 2 (big_number 2 (drop 2 bytes)) ++ r))
    (sym (texts_joined (drop 4 bytes)) ∙ t.1) in
    record { valid = (s.1, t.0, omega (arith, ap length whole)); word = []; mode = refl; whole = whole }

oack_whole : (bytes : List ℕ) → bytes ≡ big_bytes 2 6 ++ drop 2 bytes → oack_fault bytes ≡ None
    → Spells (Oack (options_in (drop 2 bytes))) bytes
oack_whole bytes start f = search (rules, guard_none, ltb-false, options_fine, eqb-false)

opcode_whole : (opcode : ℕ) (bytes : List ℕ) → bytes ≡ big_bytes 2 opcode ++ drop 2 bytes
    → ((k : ℕ) → get_or bytes k 0 < 256) → opcode_fault opcode bytes ≡ None → Spells (packet_of opcode bytes) bytes
opcode_whole opcode bytes start h f =
    ⊎_elim (λ q. let e = eqb-true opcode 1 q.0 in rw e (read_whole bytes (rw e at start) q.1)) (λ q.
    ⊎_elim (λ q. let e = eqb-true opcode 2 q.0 in rw e (write_whole bytes (rw e at start) q.1)) (λ q.
    ⊎_elim (λ q. let e = eqb-true opcode 3 q.0 in rw e (data_whole bytes (rw e at start) h q.1)) (λ q.
    ⊎_elim (λ q. let e = eqb-true opcode 4 q.0 in rw e (ack_whole bytes (rw e at start) h q.1)) (λ q.
    ⊎_elim (λ q. let e = eqb-true opcode 5 q.0 in rw e (error_whole bytes (rw e at start) h q.1)) (λ q.
    ⊎_elim (λ q. let e = eqb-true opcode 6 q.0 in rw e (oack_whole bytes (rw e at start) q.1)) (λ q. absurd (cc))
    (chosen (eqb opcode 6) _ _ _ q.1))
    (chosen (eqb opcode 5) _ _ _ q.1))
    (chosen (eqb opcode 4) _ _ _ q.1))
    (chosen (eqb opcode 3) _ _ _ q.1))
    (chosen (eqb opcode 2) _ _ _ q.1))
    (chosen (eqb opcode 1) _ _ _ f)

-- bytes that spell none have a fault
pub fault_where_nothing : FaultWhereNothing
fault_where_nothing bytes h f = search (rules, guard_none, opcode_whole, number_back, ltb-false)

-- ---- the clauses of `decode_ref`

-- what the reader finds is spelled by the bytes
pub found_spells : (bytes : List ℕ) (r : Result PacketRef PacketFault) → ((k : ℕ) → get_or bytes k 0 < 256)
    → Reads owned (packet_in bytes) (first_fault bytes) r → IfOk r (λ p. Spells (owned p) bytes)
found_spells bytes (Ok p) h e = rw e.1 (fault_where_nothing bytes h e.0)
found_spells bytes (Err f) h e = tt

-- and is the packet that they spell
pub only_spelled : (bytes : List ℕ) (r : Result PacketRef PacketFault) (p : Packet) → Spells p bytes
    → Reads owned (packet_in bytes) (first_fault bytes) r → IsOkAnd r (λ q. owned q ≡ p)
only_spelled bytes (Ok q) p s e = e.1 ∙ spelled_is_found p bytes s
only_spelled bytes (Err f) p s e = let n = spelled_has_no_fault p bytes s in absurd (cc)

-- ---- the clauses of `data_in`

-- what begins with the opcode of DATA has its two bytes
pub opcode_of_data : (bytes : List ℕ) → starts_as_data bytes ≡ true → (2 ≤ length bytes) × (big_number 2 bytes ≡ 3)
opcode_of_data bytes e = search rules

-- what is read of a datagram with the opcode of DATA is its block
pub block_found : (bytes : List ℕ) (r : Result (ℕ × Bor (List ℕ)) PacketFault) → ((k : ℕ) → get_or bytes k 0 < 256)
    → 2 ≤ length bytes → big_number 2 bytes ≡ 3 → Reads (λ d. Data d.0 d.1.now) (packet_of 3 bytes) (data_fault bytes) r
    → IfOk r (λ d. Spells (Data d.0 d.1.now) bytes)
block_found bytes (Ok d) h least opcode e =
    let head = head_decides bytes 3 least opcode in
    rw (e.1 ∙ sym head.1) (fault_where_nothing bytes h (head.0 ∙ e.0))
block_found bytes (Err f) h least opcode e = tt

-- ---- the clauses of `decode`

-- so is its copy
pub copied_only : (r : Result Packet PacketFault) (q p : Packet) → IfOk r (λ x. x ≡ q)
    → IfErr r (λ e. e ≡ out_of_memory) → q ≡ p → MatchResult r (λ x. x ≡ p) (λ e. e ≡ out_of_memory)
copied_only (Ok x) q p h k e = h ∙ e
copied_only (Err f) q p h k e = k

-- a copy fails only when out of memory, if the bytes spell a packet
pub copied_fault : (bytes : List ℕ) (r : Result Packet PacketFault) (q : Packet) → Spells q bytes
    → IfErr r (λ e. e ≡ out_of_memory) → IfErr r (λ e. IsFailure (first_fault bytes) e)
copied_fault bytes (Ok x) q s k = tt
copied_fault bytes (Err f) q s k = rw (spelled_has_no_fault q bytes s) k
