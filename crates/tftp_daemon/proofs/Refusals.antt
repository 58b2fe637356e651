-- What a command line is not refused for, from its matches to the configuration.
use Rattle.std.proofs.Common.{◌≡◌, ◌≤◌, ◌+◌, ◌-◌, ◌*◌, ◌^◌, ◌∙◌, ℕ, suc, Bool, true, false, List, [], ◌∷◌, ◌++◌}
use Rattle.std.proofs.Common.{Option, Some, None, refl, ap, sym, subst, arith, inl, inr, length, codes, drop, min}
use Rattle.std.specs.Prelude.{◌≢◌, ◌==◌, IfSome, IsSome, is_some, option_and_then, option_map, slice_get, unwrap_or, find}
use Rattle.std.specs.Borrow.{Bor}
use Rattle.std.specs.List.{list_any}
use Rattle.std.specs.Option.{option_map_or}
use Rattle.std.specs.Str.{bytes_eq}
use Rattle.std.specs.Str.Parse.{ParsesBool}
use Rattle.std.proofs.lemmas.Bool.{cases_lt, false_from_ne_true, or_parts, or_right, true≢false}
use Rattle.std.proofs.lemmas.Option.{none-some, same_Some, slice_get-map}
use Rattle.std.proofs.lemmas.Slice.Eq.{bytes_eq-Decides}
use Rattle.clap.specs.Facts.{Entry}
use Rattle.clap.specs.Matches.{ReadsOne, first_value, found_of, matched_of, one_text, raw_values}
use Rattle.clap.specs.Values.{read_as}
use Rattle.clap.specs.Walk.{Row, first_of, one_of, row_of, rows_of}
use Rattle.clap.specs.declared.builder.value_parser.Reading.{Reading}
use Rattle.clap.specs.declared.parser.matches.ArgMatches.{ArgMatches}
use Rattle.clap.specs.declared.parser.matches.Found.{Found}
use Rattle.clap.specs.declared.parser.matches.MatchedArg.{MatchedArg}
use Rattle.clap.specs.declared.parser.matches.ValueSource.{ValueSource}
use Rattle.clap.proofs.WalkLemmas.{find-map, first_value-rows, one_text-rows}
use Rattle.tftp_ends.specs.declared.endpoint.Endpoint.{Endpoint}
use Rattle.tftp_loop.specs.declared.port_order.PortRange.{PortRange}
use Rattle.tftp_loop.specs.declared.serving.Ending.{Ending}
use Rattle.tftp_sockets.specs.Address.{Names}
use Rattle.tftp_arguments.specs.Read.{IsNumber, ReadWords, read_of}
use Rattle.tftp_daemon.specs.CommandLine.{EndsAs, IsOfSeveral, NameEndpoints, NamesListen, NamesServer, ServersAs}
use Rattle.tftp_daemon.specs.CommandLine.{ServersFor, StartsInRows, is_on, servers_of, words_of}
use Rattle.tftp_daemon.specs.CommandLine.EndsAs.{Never, After}
use Rattle.tftp_daemon.specs.Refused.{Configures, HasPortsFor, IsNever, IsStatusApart, JudgesStatus}
use Rattle.tftp_daemon.specs.Refused.{StandTogether, StatusApart, is_given, root_of, source_in, source_of}
use Rattle.tftp_daemon.specs.declared.daemon.DaemonConfig.{DaemonConfig}
use Rattle.tftp_daemon.specs.declared.listen.Listen.{Listen}
use Rattle.tftp_daemon.specs.declared.listen.Listen.TheVariants.{At, Handed}
use Rattle.tftp_daemon.proofs.Commands.{by_rows, words_by_rows}

-- ---- what was found of an option
-- a flag that is read as a `bool` is set as its text says
pub on_as_read : (E : Type 0) (text : Option (List ℕ)) (read : Option Bool) → (text ≡ None → read ≡ None)
    → ((t : List ℕ) → text ≡ Some t → ReadsOne {T = Bool} {E = E} ParsesBool t read)
    → unwrap_or read false ≡ is_on text
on_as_read E None read none value = ap (λ (r : Option Bool). unwrap_or r false) (none refl)
on_as_read E (Some t) None none value =
    let fails = value t refl in
    sym (false_from_ne_true (bytes_eq t (codes "true"))
    (λ same. fails.1.0 ((bytes_eq-Decides t (codes "true")).0 same)))
on_as_read E (Some t) (Some true) none value = sym (ap (λ (u : List ℕ). bytes_eq u (codes "true")) (value t refl))
on_as_read E (Some t) (Some false) none value = sym (ap (λ (u : List ℕ). bytes_eq u (codes "true")) (value t refl))

-- an option without a value has no text
text_none : (found : Found) (id : List ℕ) → first_value found id ≡ None → one_text found id ≡ None
text_none found id none = go (matched_of found id) none
  where
    at : (reading : Reading) (value : Option (Bor (List ℕ))) → option_map (λ (s : Bor (List ℕ)). s.now) value ≡ None
        → option_map (λ (s : Bor (List ℕ)). read_as reading s.now) value ≡ None
    at reading None is = refl
    at reading (Some s) is = absurd (none-some s.now (sym is))

    go : (m : Option MatchedArg)
        → option_and_then (λ (a : MatchedArg). option_map (λ (s : Bor (List ℕ)). s.now) (slice_get a.vals.items 0)) m ≡ None
        → option_and_then (λ (a : MatchedArg). option_map (λ (s : Bor (List ℕ)). read_as a.reading s.now) (slice_get a.vals.items 0)) m
        ≡ None
    go None is = refl
    go (Some a) is = at a.reading (slice_get a.vals.items 0) is

-- its first value is the first of its words
first_is_head : (found : Found) (id : List ℕ) → first_value found id ≡ slice_get (words_of found id) 0
first_is_head found id = go (matched_of found id)
  where
    go : (m : Option MatchedArg)
        → option_and_then (λ (a : MatchedArg). option_map (λ (s : Bor (List ℕ)). s.now) (slice_get a.vals.items 0)) m
        ≡ slice_get (option_map_or raw_values m []) 0
    go None = refl
    go (Some a) = sym (slice_get-map (λ (s : Bor (List ℕ)). s.now) a.vals.items 0)

-- where its values come from, by its row
source_by_rows : (found : Found) (id : List ℕ) → source_of found id ≡ source_in (rows_of found) id
source_by_rows found id =
    go (find (λ (e : Entry). bytes_eq e.0.now id) found.entries.items)
    ∙ ap (λ (r : Option Row). option_and_then (λ (row : Row). row.source) r)
    (find-map (λ (r : Row). bytes_eq r.id id) row_of found.entries.items)
  where
    go : (e : Option Entry)
        → option_and_then (λ (m : MatchedArg). m.source) (option_map (λ (entry : Entry). entry.1) e)
        ≡ option_and_then (λ (row : Row). row.source) (option_map row_of e)
    go None = refl
    go (Some e) = refl

-- an option that is found is one of two
no_value : (o : Option (List ℕ)) → (IsSome o → ⊥) → o ≡ None
no_value None is = refl
no_value (Some x) is = absurd (is refl)

some_value : (o : Option (List ℕ)) → (o ≡ None → ⊥) → IsSome o
some_value None is = absurd (is refl)
some_value (Some x) is = refl

-- ---- addresses
named_length : (words : List (List ℕ)) (endpoints : List Endpoint) → NameEndpoints words endpoints
    → length words ≡ length endpoints
named_length [] [] are = refl
named_length [] (e ∷ endpoints) are = absurd are
named_length (w ∷ words) [] are = absurd are
named_length (w ∷ words) (e ∷ endpoints) are = ap suc (named_length words endpoints are.1)

-- there is a word for each address
counted : (listens : List (List ℕ)) (others : List Endpoint) (word : List ℕ) → slice_get listens 0 ≡ Some word
    → NameEndpoints (drop 1 listens) others → length others + 1 ≡ length listens
counted [] others word first are = absurd (none-some word first)
counted (w ∷ listens) others word first are = let same = named_length listens others are in omega (arith, same)

length_some : (others : List Endpoint) → others ≢ [] → 1 ≤ length others
length_some [] some = absurd (some refl)
length_some (e ∷ others) some = omega arith

-- no word is `stdin`, so the first is not
first_is_other : (listens : List (List ℕ)) (word : List ℕ) → slice_get listens 0 ≡ Some word
    → list_any (λ (w : List ℕ). bytes_eq w (codes "stdin")) listens ≡ false → word ≡ codes "stdin" → ⊥
first_is_other [] word first none is = none-some word first
first_is_other (w ∷ listens) word first none is =
    let same : w ≡ codes "stdin" = same_Some w word first ∙ is in
    let test = or_parts (bytes_eq w (codes "stdin")) (list_any (λ (v : List ℕ). bytes_eq v (codes "stdin")) listens) none in
    true≢false (sym ((bytes_eq-Decides w (codes "stdin")).1 same) ∙ test.0)

abbrev is_colon : ℕ → Bool
is_colon byte = byte == 58

has_colon : (front rest : List ℕ) → list_any is_colon (front ++ 58 ∷ rest) ≡ true
has_colon [] rest = refl
has_colon (b ∷ front) rest = or_right (is_colon b) (list_any is_colon (front ++ 58 ∷ rest)) (has_colon front rest)

-- an address has a colon, which `stdin` has not
stdin_is_no_address : (at : Endpoint) → Names (codes "stdin") (Some at) → ⊥
stdin_is_no_address at names =
    let port = names.1.4 in
    let whole : codes "stdin" ≡ names.1.0 ++ 58 ∷ port.0 = names.1.2 ∙ ap (λ (p : List ℕ). names.1.0 ++ p) port.1 in
    true≢false (sym (has_colon names.1.0 port.0) ∙ sym (ap (list_any is_colon) whole))

bound_at : (word : List ℕ) (listen : Listen) → NamesListen word listen → (word ≡ codes "stdin" → ⊥)
    → (at : Endpoint) × (listen ≡ At at)
bound_at word (At at) names other = (at, refl)
bound_at word Handed names other = absurd (other names)

handed_at : (word : List ℕ) (listen : Listen) → NamesListen word listen → word ≡ codes "stdin" → listen ≡ Handed
handed_at word (At at) names is =
    absurd (stdin_is_no_address at (subst (λ (w : List ℕ). Names w (Some at)) is names))
handed_at word Handed names is = refl

-- ---- the end and the number
never : (read : ReadWords) (ending : Ending) → EndsAs read ending → is_on (read.text (codes "forever")) ≡ true
    → IsNever ending
never read ending (Never on transfers rounds) forever = record { transfers = transfers; rounds = rounds }
never read ending (After off transfers rounds) forever = absurd (true≢false (sym forever ∙ off))

most_each : (word : Option (List ℕ)) (servers : ℕ) → ServersAs word servers → servers ≤ 64
most_each None servers are = absurd are
most_each (Some word) servers are = are.1.1

no_uploads : (uploads : Option (Bor (List ℕ))) → option_map (λ (f : Bor (List ℕ)). f.now) uploads ≡ None → uploads ≡ None
no_uploads None none = refl
no_uploads (Some folder) none = absurd (none-some folder.now (sym none))

-- a number that is small is not cut
same_count : (all each count : ℕ) → all ≡ each → all ≤ 64 → count ≡ min each (2 ^ 64 - 1) → count ≡ all
same_count all each count is small cut = omega arith

judged_apart : (file : Option (Bor (List ℕ))) (drain : Option (List ℕ)) (root : List ℕ)
    → JudgesStatus (option_map (λ (f : Bor (List ℕ)). f.now) file) drain root None
    → IfSome file (λ f. IsStatusApart drain root f.now)
judged_apart None drain root judged = tt
judged_apart (Some file) drain root judged = judged

-- ---- a configuration of these matches, which are not refused
module _ (m : ArgMatches) (config : DaemonConfig) (each : ℕ)
    (names : NamesServer (read_of m) (words_of (found_of m) (codes "listen")) config)
    (servers : config.instance.servers ≡ each) (stand : StandTogether (found_of m) each) where
  first : slice_get (words_of (found_of m) (codes "listen")) 0 ≡ Some names.listen.0
  first = sym (first_is_head (found_of m) (codes "listen")) ∙ names.listen.1

  count : length config.others.items + 1 ≡ length (words_of (found_of m) (codes "listen"))
  count = counted (words_of (found_of m) (codes "listen")) config.others.items names.listen.0 first names.others

  two : config.others.items ≢ [] → 2 ≤ length (words_of (found_of m) (codes "listen"))
  two some = let long = length_some config.others.items some in omega (arith, count, long)

  many : 2 ≤ config.instance.servers → 2 ≤ each
  many several = subst (λ (n : ℕ). 2 ≤ n) servers several

  is_other : config.others.items ≢ [] → names.listen.0 ≡ codes "stdin" → ⊥
  is_other some =
      first_is_other (words_of (found_of m) (codes "listen")) names.listen.0 first
      (stand.servers.addresses.bound (two some))

  is_forever : IsOfSeveral config → is_on (one_text (found_of m) (codes "forever")) ≡ true
  is_forever (inl several) = stand.servers.many.forever (many several)
  is_forever (inr some) = stand.servers.addresses.forever (two some)

  no_server : first_value (found_of m) (codes "server") ≡ None → config.instance.server ≡ None
  no_server none =
      subst (λ (t : Option (List ℕ)). IsNumber 8 t config.instance.server)
      (text_none (found_of m) (codes "server") none) names.instance.server

  is_stdin : IsSome (first_value (found_of m) (codes "server")) → names.listen.0 ≡ codes "stdin"
  is_stdin given = same_Some names.listen.0 (codes "stdin") (sym names.listen.1 ∙ stand.servers.one.listen given)

  alone : IsOfSeveral config → config.instance.server ≡ None
  alone (inl several) = no_server (stand.servers.many.server (many several))
  alone (inr some) =
      no_server (no_value (first_value (found_of m) (codes "server")) (λ given. is_other some (is_stdin given)))

  handed : IsSome config.instance.server → config.listen ≡ Handed
  handed is =
      let given = some_value (first_value (found_of m) (codes "server"))
      (λ none. true≢false (sym is ∙ ap (λ (o : Option ℕ). is_some o) (no_server none))) in
      handed_at names.listen.0 config.listen names.listen.2 (is_stdin given)

  most : servers_of config ≤ 64
  most = elim (cases_lt (length (words_of (found_of m) (codes "listen"))) 2) [
    | inl few ↦
        let one : length config.others.items + 1 ≡ 1 = omega (arith, count, few) in
        let small = most_each (first_value (found_of m) (codes "servers")) config.instance.servers names.instance.servers in
        subst (λ (k : ℕ). config.instance.servers * k ≤ 64) (sym one) (omega (arith, small))
    | inr several ↦
        subst (λ (k : ℕ). config.instance.servers * k ≤ 64) (sym count)
        (subst (λ (n : ℕ). n * length (words_of (found_of m) (codes "listen")) ≤ 64) (sym servers)
        (stand.servers.addresses.most several))
  ]

  all : servers_of config ≡ each * length (words_of (found_of m) (codes "listen"))
  all = ap (λ (n : ℕ). n * (length config.others.items + 1)) servers ∙ ap (λ (k : ℕ). each * k) count

  ports_for : (ports : Option PortRange) (number : ℕ) → config.ports ≡ ports
      → number ≡ min (each * length (words_of (found_of m) (codes "listen"))) (2 ^ 64 - 1)
      → HasPortsFor number ports → HasPortsFor (servers_of config) config.ports
  ports_for ports number is cut enough =
      let same = same_count (servers_of config) (each * length (words_of (found_of m) (codes "listen"))) number all most cut in
      subst (λ (p : Option PortRange). HasPortsFor (servers_of config) p) (sym is)
      (subst (λ (n : ℕ). HasPortsFor n ports) same enough)

  uploads : config.read_only ≡ true → config.uploads ≡ None
  uploads on = no_uploads config.uploads (sym names.uploads ∙ stand.writes.uploads (sym names.read_only ∙ on))

  log : config.log_times ≡ true → config.logs ≡ true
  log on = names.logs ∙ stand.logs.log (sym names.log_times ∙ on)

  -- an option that is not given beside `--forever`, by the rows
  not_given : (id : List ℕ)
      → (is_on (one_text (found_of m) (codes "forever")) ≡ true → is_given (source_of (found_of m) id) ≡ false)
      → is_on (one_of (codes "forever") (rows_of (found_of m))) ≡ true
      → is_given (source_in (rows_of (found_of m)) id) ≡ false
  not_given id holds on =
      subst (λ (s : Option ValueSource). is_given s ≡ false) (source_by_rows (found_of m) id)
      (holds (ap (λ (t : Option (List ℕ)). is_on t) (one_text-rows (found_of m) (codes "forever")) ∙ on))

  status_apart : JudgesStatus (first_value (found_of m) (codes "status")) (first_value (found_of m) (codes "drain"))
      (root_of (found_of m)) None → StatusApart config
  status_apart judged =
      let drain : Option (List ℕ) = option_map (λ (p : Bor (List ℕ)). p.now) config.drain in
      judged_apart config.status drain config.root.now
      (subst (λ (file : Option (List ℕ)). JudgesStatus file drain config.root.now None) names.status
      (subst (λ (d : Option (List ℕ)). JudgesStatus (first_value (found_of m) (codes "status")) d config.root.now None) names.drain
      (subst (λ (root : List ℕ). JudgesStatus (first_value (found_of m) (codes "status"))
      (first_value (found_of m) (codes "drain")) root None)
      (ap (λ (word : Option (List ℕ)). unwrap_or word []) names.root) judged)))

  -- the rows name the configuration, and its options stand together
  pub configures : (ports : Option PortRange) (number : ℕ) → config.ports ≡ ports
      → number ≡ min (each * length (words_of (found_of m) (codes "listen"))) (2 ^ 64 - 1)
      → HasPortsFor number ports
      → JudgesStatus (first_value (found_of m) (codes "status")) (first_value (found_of m) (codes "drain"))
      (root_of (found_of m)) None → Configures (rows_of (found_of m)) config
  configures ports number is cut enough judged = record {
    named = by_rows m names;
    status = status_apart judged;
    together = record {
      transfers = not_given (codes "transfers") stand.ends.transfers;
      rounds = not_given (codes "rounds") stand.ends.rounds;
      uploads = uploads;
      log = log;
      most = most;
      ports = ports_for ports number is cut enough;
      forever = λ several. never (read_of m) config.ending names.ending (is_forever several);
      alone = alone;
      bound = λ some. bound_at names.listen.0 config.listen names.listen.2 (is_other some);
      handed = handed;
    };
  }

-- a configuration starts as many servers at each address as the rows say
pub starts_for : (m : ArgMatches) (config : DaemonConfig) (processors each : ℕ)
    → ServersFor processors (length (words_of (found_of m) (codes "listen"))) (first_value (found_of m) (codes "servers"))
    each
    → config.instance.servers ≡ each → StartsInRows processors (rows_of (found_of m)) config
starts_for m config processors each are is =
    subst (λ (listens : List (List ℕ)). ServersFor processors (length listens) (first_of (codes "servers") (rows_of (found_of m)))
    config.instance.servers) (words_by_rows (found_of m) (codes "listen"))
    (subst (λ (word : Option (List ℕ)).
    ServersFor processors (length (words_of (found_of m) (codes "listen"))) word config.instance.servers)
    (first_value-rows (found_of m) (codes "servers"))
    (subst (λ (n : ℕ). ServersFor processors (length (words_of (found_of m) (codes "listen")))
    (first_value (found_of m) (codes "servers")) n) (sym is) are))
