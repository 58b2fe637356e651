-- What the bytes of a datagram say: one packet at most, and a valid packet what it spells. For eight other files and
-- the crates tftp_player and tftp_promises.
use Rattle.tftp_rules.proofs.Common.{◌≡◌, List, refl, true, [], false, ℕ, rules, ◌∷◌, arith, ◌∙◌, Some, Bool, ◌++◌, ap}
use Rattle.tftp_rules.proofs.Common.{◌<◌, Option, Ok, drop, Result, Err, ◌^◌, std_rules, cond, AllByRecursion, Spells}
use Rattle.tftp_rules.proofs.Common.{IsValid, canonical, Mode, RawOption, size, IsAgreeable, agreed_options, agreement}
use Rattle.tftp_rules.proofs.Common.{Asked, Kind, Known, Refusal, Decodes, oack_size, WirePacket, Timeout, Tsize}
use Rattle.tftp_rules.proofs.Common.{name_of, number_of, Name, numbers_are_printed}
use Rattle.std.proofs.Common.{decimal}
use Rattle.std.specs.Prelude.{option_to_list}
use Rattle.std.specs.Str.{str_to_ascii_lowercase}
use Rattle.tftp_wire.specs.declared.packet.Packet.TheVariants.{Data}
use Rattle.tftp_wire.specs.Spelling.{word_of}
use Rattle.tftp_negotiate.specs.declared.name.Name.TheVariants.{Blksize}
use Rattle.tftp_negotiate.specs.declared.refusal.Refusal.TheVariants.{Repeated}
use Rattle.tftp_negotiate.specs.Options.{name_text}
use Rattle.tftp_negotiate.specs.Negotiation.{kept_before, each_judged}
use Rattle.tftp_negotiate.specs.Agreement.{taken, taken_option}
use Rattle.tftp_rules.specs.Said.{stated_as, stated_options}
use Rattle.tftp_negotiate.specs.declared.known.Known.TheVariants as known

lower_word : (p : WirePacket) → str_to_ascii_lowercase (word_of p) ≡ word_of p
lower_word p = search rules

-- a valid packet's own bytes spell it
pub spells_own : (p : WirePacket) → IsValid p → Spells p (canonical p)
spells_own p v = record { valid = v; word = word_of p; mode = lower_word p; whole = refl }

-- bytes that are decoded to a packet spell it
pub says_spelled : (bytes : List ℕ) (decoded : Option WirePacket) → Decodes bytes decoded → (p : WirePacket) →
    decoded ≡ Some p → Spells p bytes
says_spelled bytes decoded s p e = search rules

-- the data of a DATA
pub data_of : (n : ℕ) (piece bytes : List ℕ) → Spells (Data n piece) bytes → drop 4 bytes ≡ piece
data_of n piece bytes s = ap (drop 4) s.whole

name_of-own : (name : Name) → name_of (name_text name) ≡ Some name
unfolding name_of
name_of-own Blksize = refl
name_of-own Timeout = refl
name_of-own Tsize = refl

-- a timeout or a length gives no block size
no_size : (name : Name) (value : Option ℕ) (rest : List Known) → (name ≡ Blksize → ⊥) →
    size (option_to_list (stated_as (Some name) value) ++ rest) ≡ size rest
no_size name value rest n = search rules

-- the block size of an OACK with these options is the agreed one
pub own_oack : (agreed : List Known) → AllByRecursion IsAgreeable agreed →
    oack_size (agreed_options agreed) ≡ size agreed
own_oack [] h = refl
own_oack (known.Blksize n ∷ agreed) h =
    let fits : n < 2 ^ 64 = let l = h.0.1 in omega arith in
    ap (λ (name : Option Name). size (option_to_list (stated_as name (number_of (decimal n)))
    ++ stated_options (agreed_options agreed))) (name_of-own Blksize)
    ∙ ap (λ (value : Option ℕ). size (option_to_list (stated_as (Some Blksize) value)
    ++ stated_options (agreed_options agreed))) ((numbers_are_printed (decimal n) n).1 (refl, fits))
own_oack (known.Timeout n ∷ agreed) h =
    ap (λ (name : Option Name). size (option_to_list (stated_as name (number_of (decimal n)))
    ++ stated_options (agreed_options agreed))) (name_of-own Timeout)
    ∙ (no_size Timeout (number_of (decimal n)) (stated_options (agreed_options agreed)) (λ e. cc) ∙ own_oack agreed h.1)
own_oack (known.Tsize n ∷ agreed) h =
    ap (λ (name : Option Name). size (option_to_list (stated_as name (number_of (decimal n)))
    ++ stated_options (agreed_options agreed))) (name_of-own Tsize)
    ∙ (no_size Tsize (number_of (decimal n)) (stated_options (agreed_options agreed)) (λ e. cc) ∙ own_oack agreed h.1)

taken_stated : (asked : Asked) (kind : Kind) (mode : Mode) (limit : ℕ) (name : Option Name) (value : Option ℕ)
    (v : Option Known) → taken asked kind mode limit name value ≡ Ok v → v ≡ stated_as name value
taken_stated asked kind mode limit name value v e = search rules

judged_stated : (one : Result (Option Known) Refusal) (others : Result (List Known) Refusal) (ks : List Known) →
    kept_before one others ≡ Ok ks →
    (v : Option Known) × (rest : List Known) × (one ≡ Ok v) × (others ≡ Ok rest) × (ks ≡ option_to_list v ++ rest)
judged_stated one others ks e = search rules

each_stated : (asked : Asked) (kind : Kind) (mode : Mode) (limit : ℕ) (options : List RawOption) (ks : List Known) →
    each_judged (taken_option asked kind mode limit) options ≡ Ok ks → stated_options options ≡ ks
unfolding taken_option
each_stated asked kind mode limit [] ks e = let f = e in cc
each_stated asked kind mode limit (o ∷ options) ks e =
    let j = judged_stated _ _ _ e in
    let one = taken_stated asked kind mode limit (name_of o.name) (number_of o.value) j.0 j.2 in
    let others = each_stated asked kind mode limit options j.1 j.3 in
    search std_rules

-- options that are agreed were not refused as repeated
pub negotiated_each : (b : Bool) (r : Result (List Known) Refusal) (ks : List Known) → cond b (Err Repeated) r ≡ Ok ks →
    r ≡ Ok ks
negotiated_each true r ks e = cc
negotiated_each false r ks e = e

-- what a client agrees to is what the OACK says
pub taken_oack : (asked : Asked) (kind : Kind) (mode : Mode) (options : List RawOption) (limit : ℕ) (ks : List Known) →
    agreement asked kind mode options limit ≡ Ok ks → oack_size options ≡ size ks
taken_oack asked kind mode options limit ks e = search (rules, each_stated, negotiated_each)
