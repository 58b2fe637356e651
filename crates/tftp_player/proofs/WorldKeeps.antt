-- Clients that open, and the request port, keep a world. For five other files.
use Rattle.tftp_player.proofs.Common.{◌≡◌, ℕ, ◌+◌, ◌*◌, ◌<◌, ◌≤◌, Bool, true, false, List, [], ◌∷◌, ◌++◌, length, map}
use Rattle.tftp_player.proofs.Common.{Option, Some, None, Result, Ok, Err, sym, refl, ◌∙◌, subst, arith, rules, ◌≢◌}
use Rattle.tftp_player.proofs.Common.{nat_lt, Contains, same_Some, slice_get_within, true≢false, ltb-true, MAX_BLOCK}
use Rattle.tftp_player.proofs.Common.{Mode, Read, Write, Spells, canonical, RawOption, Asked, Kind, Known, Refusal}
use Rattle.tftp_player.proofs.Common.{size, answer, IsBlockSize, Fits, wire_text, ErrorReply, error_bytes, measured}
use Rattle.tftp_player.proofs.Common.{server_ip, client_ip, request_port, two_hosts, Endpoint, Elsewhere, Message}
use Rattle.tftp_player.proofs.Common.{OpenEnd, Rule, message, said, answer_granted, spells_own, host_server, EndView}
use Rattle.tftp_player.proofs.Common.{IsShownWithin, WorldState, WorldEnd, Open_end, file_at, datagram, said_in}
use Rattle.tftp_player.proofs.Common.{view_of_end, reading_client, writing_client, MayGet, MayPut, sending_end}
use Rattle.tftp_player.proofs.Common.{receiving_end, Ask, Service, Refused, Sends, by_file, IsRepeated, open_transfers}
use Rattle.tftp_player.proofs.Common.{opened_of, served, service, Stays, ServiceStep, OpeningStep, RefinesAt}
use Rattle.tftp_player.proofs.Common.{RefinesWithin, Report, AllByRecursion, WirePacket, Limits, PathFault}
use Rattle.tftp_player.proofs.Common.{FileTooLarge, IllegalOperation, host_of, requested, IsShownAt, Refuses}
use Rattle.tftp_player.proofs.Common.{accept_reply, by_draft, by_length, by_name, by_options, by_packet, begun_of}
use Rattle.tftp_player.proofs.Common.{WasAsked}
use Rattle.std.proofs.Common.{nat_le}
use Rattle.tftp_wire.specs.declared.packet.Request.{Request}
use Rattle.tftp_wire.specs.Spelling.{IsValid}
use Rattle.tftp_negotiate.specs.declared.known.Kind.TheVariants as kinds
use Rattle.tftp_negotiate.specs.Agreed.{IsAgreeable}
use Rattle.tftp_negotiate.proofs.LawsLemmas.{answers_may_be_agreed}
use Rattle.tftp_file.specs.Path.{path_of_name}
use Rattle.tftp_ends.specs.declared.error_reply.ErrorReply.TheVariants.{ServerBusy, FileNotFound, AccessViolation}
use Rattle.tftp_ends.specs.declared.error_reply.ErrorReply.TheVariants.{FileExists}
use Rattle.tftp_ends.specs.ErrorReply.{error_packet}
use Rattle.tftp_rules.specs.EndOpens.{AreGranted, IsNewly}
use Rattle.tftp_rules.proofs.Actions.{asks, says_error}
use Rattle.tftp_rules.proofs.EndOpenings.{no_text, nothing_held, opens_to_send, opens_to_store}
use Rattle.tftp_rules.proofs.Granted.{answer_small}
use Rattle.tftp_rules.proofs.EndMoves.{valid_error}
use Rattle.tftp_rules.proofs.HostLemmas.{host_client}
use Rattle.tftp_rules.specs.Shows.{NoneAt}
use Rattle.tftp_player.specs.Openings.{request_of}
use Rattle.tftp_server.specs.Port.{Reads, by_repeat}
use Rattle.tftp_player.specs.WorldKept.{RefinesBy}
use Rattle.tftp_rules.proofs.PhaseMoves.{if_acts}
use Rattle.tftp_player.proofs.UnansweredLemmas.{none_answers}
use Rattle.tftp_player.proofs.Measured.{measured_fits}
use Rattle.tftp_player.proofs.WorldTurns.{viewed_at, opening_keeps, opens_elsewhere, saying_keeps}

at_server : (a : Endpoint) → a.ip ≡ server_ip → host_of a ≢ Elsewhere
at_server a e f = let h = sym (host_server a e) ∙ f in cc

at_client : (a : Endpoint) → a.ip ≡ client_ip → host_of a ≢ Elsewhere
at_client a e f = let h = sym (host_client a e) ∙ f in cc

-- no rule is a few
pub none_more : (first : List Rule) (views : List EndView) (messages : List Message) →
    IsShownAt two_hosts first views messages → IsShownWithin two_hosts 3 first views messages
none_more first views messages shown = search rules

-- a world is kept by how it is shown
unfoldable pub shown_as :
    (P Q : List EndView → List Message → Type 0) (strangers : Bool) (w : WorldState) (ok : RefinesBy P strangers w) →
    Q (map view_of_end w.ends) ok.messages → RefinesBy Q strangers w
shown_as P Q strangers w ok shown = record {
  messages = ok.messages;
  shown = shown;
  sent = ok.sent;
  only = ok.only;
  speakers = ok.speakers;
  ports = ok.ports;
  max_block = ok.max_block;
  ends = ok.ends;
}

-- the options that a server agreed to
pub answered_values :
    (kind : Kind) (mode : Mode) (file_length : ℕ) (limits : Limits) (options : List RawOption) (known : List Known) →
    IsBlockSize limits.max_block →
    answer options kind mode file_length limits ≡ Ok known → AllByRecursion IsAgreeable known
answered_values kind mode file_length limits options known ok e = search (rules, answers_may_be_agreed)

-- what an end has sent is a packet, if it is the packet's own bytes
spells_at : (bytes : List ℕ) (p : WirePacket) → IsValid p → bytes ≡ canonical p → Spells p bytes
spells_at bytes p valid is = subst (λ (b : List ℕ). Spells p b) (sym is) (spells_own p valid)

-- a request in this mode, whose name means this path or none, was
abbrev pub AsksOnce : List Message → List WorldEnd → Endpoint → List ℕ → Bool → Mode → Result (List ℕ) PathFault
    → Type 0
AsksOnce messages ends from bytes write mode path =
    (q : Request) × (q.mode ≡ mode) × (path_of_name q.name ≡ path)
    × IsNewly two_hosts (map view_of_end ends) messages from bytes write q

-- the decoded request was, unless it repeats another
abbrev pub AsksSo : List Message → List WorldEnd → Endpoint → List ℕ → Bool → Option WirePacket → Type 0
AsksSo messages ends from bytes repeated decoded =
    (write : Bool) (r : Request) → decoded ≡ Some (requested write r) → repeated ≡ false →
    AsksOnce messages ends from bytes write r.mode (path_of_name r.name)

-- what was decoded was sent
pub asked_so :
    (messages : List Message) (ends : List WorldEnd) (from : Endpoint) (bytes : List ℕ) (repeated : Bool)
    (decoded : Option WirePacket) →
    ((p : WirePacket) → decoded ≡ Some p → Contains messages (message from request_port (said p))) →
    ((p : WirePacket) → decoded ≡ Some p → Spells p bytes) →
    IsRepeated repeated from decoded ends → AsksSo messages ends from bytes repeated decoded
asked_so messages ends from bytes repeated decoded come spelled same true r e new = (
  r,
  refl,
  refl,
  record {
    sent = come (Write r) e;
    spells = spelled (Write r) e;
    unanswered = none_answers from (Write r) ends repeated decoded same e new;
  },
)
asked_so messages ends from bytes repeated decoded come spelled same false r e new = (
  r,
  refl,
  refl,
  record {
    sent = come (Read r) e;
    spells = spelled (Read r) e;
    unanswered = none_answers from (Read r) ends repeated decoded same e new;
  },
)

module _ (first : List Rule) (strangers : Bool) (w : WorldState) (ok : RefinesAt first strangers w) where
  abbrev Kept : WorldState → Type 0
  Kept v = RefinesWithin 3 first strangers v

  abbrev views : List EndView
  views = map view_of_end w.ends

  -- no end has the next port
  none_at_next : (a : Endpoint) → a.port ≡ 1024 + length w.ends → NoneAt views a
  none_at_next a port k e i same = search (rules, viewed_at, slice_get_within)

  -- a step that changes nothing keeps a world
  pub stays_ok : (v : WorldState) (report : Report) → Stays w report v → Kept v
  stays_ok v report s =
      subst Kept (sym s.is)
      (shown_as (IsShownAt two_hosts first) (IsShownWithin two_hosts 3 first) strangers w ok
      (none_more first views ok.messages ok.shown))

  -- a client opens
  pub reading_keeps : (v : WorldState) (name : List ℕ) (mode : Mode) (asked : Asked) (report : Report) →
      MayGet name mode asked → OpeningStep w (reading_client w name mode asked) report v → Kept v
  reading_keeps v name mode asked report may o =
      let x = reading_client w name mode asked in
      let p = Read (request_of name mode asked) in
      let a = x.address in
      let shown_now =
      asks two_hosts first views ok.messages ok.shown a false (request_of name mode asked) (wire_text mode [] ++ [])
      (host_client a refl) (none_at_next x.address refl) (λ _. no_text mode) in
      opening_keeps first strangers w v ok x report p (spells_own p may.valid) shown_now (at_client a refl) refl refl
      (record {
        phase = (refl, may.options.askable, refl, refl, λ _. refl, λ e. absurd (true≢false (sym e)));
        held_back = nothing_held mode;
        committed = λ _. refl;
      }) refl refl (opens_elsewhere w x refl) o

  -- a client that opens to write keeps it
  pub writing_keeps : (v : WorldState) (name : List ℕ) (mode : Mode) (asked : Asked) (file : List ℕ)
      (report : Report) → MayPut name mode asked (length (wire_text mode file)) →
      OpeningStep w (writing_client w name mode asked file) report v → Kept v
  writing_keeps v name mode asked file report may o =
      let x = writing_client w name mode asked file in
      let p = Write (request_of name mode asked) in
      let a = x.address in
      let shown_now =
      asks two_hosts first views ok.messages ok.shown a true (request_of name mode asked) (wire_text mode file)
      (host_client a refl) (none_at_next x.address refl) (λ e. absurd (true≢false e)) in
      opening_keeps first strangers w v ok x report p (spells_own p may.valid) shown_now (at_client a refl) refl refl
      (record {
        phase = (refl, may.options.askable, refl, refl, λ _. refl, λ _. refl);
        held_back = nothing_held mode;
        committed = λ e. absurd (true≢false e);
      }) refl refl (opens_elsewhere w x refl) o

  -- an end that opens for a request was asked by it
  asked_from : (from : Endpoint) (bytes : List ℕ) (write : Bool) (request : Request) (x : OpenEnd) →
      x.request ≡ bytes → (path : List ℕ) →
      IsNewly two_hosts views ok.messages from bytes write request → x.path ≡ path →
      path_of_name request.name ≡ Ok path → host_of from ≢ Elsewhere → WasAsked w from (Open_end x)
  asked_from from bytes write request x same path come here named near = search rules

  -- a read is served
  sending_keeps : (v : WorldState) (from : Endpoint) (bytes : List ℕ) (request : Request) (path file : List ℕ)
      (agreed : List Known) (report : Report) →
      IsNewly two_hosts views ok.messages from bytes false request → AreGranted agreed →
      Fits (wire_text request.mode file) (size agreed) → path_of_name request.name ≡ Ok path →
      file_at w.files path ≡ Some file →
      OpeningStep w (sending_end w from bytes request.mode path file agreed) report v → Kept v
  sending_keeps v from bytes request path file [] report come granted fits named there o =
      let x = sending_end w from bytes request.mode path file [] in
      let opens =
      opens_to_send two_hosts first views ok.messages x.address from bytes request path file
      (wire_text request.mode file) [] w.retries ok.shown (host_server x.address refl)
      (none_at_next x.address refl) come granted fits in
      let spelled = spells_at x.state.position.last_sent opens.packet opens.valid opens.last_sent in
      opening_keeps first strangers w v ok x report opens.packet spelled opens.shown (at_server x.address refl) refl
      refl opens.kept refl refl (record {
        asked = λ server. (from, refl, asked_from from bytes false request x refl path come refl named);
        sends = λ server sends. there;
      }) o
  sending_keeps v from bytes request path file (known ∷ agreed) report come granted fits named there o =
      let x = sending_end w from bytes request.mode path file (known ∷ agreed) in
      let opens =
      opens_to_send two_hosts first views ok.messages x.address from bytes request path file
      (wire_text request.mode file) (known ∷ agreed) w.retries ok.shown (host_server x.address refl)
      (none_at_next x.address refl) come granted fits in
      let spelled = spells_at x.state.position.last_sent opens.packet opens.valid opens.last_sent in
      opening_keeps first strangers w v ok x report opens.packet spelled opens.shown (at_server x.address refl) refl
      refl opens.kept refl refl (record {
        asked = λ server. (from, refl, asked_from from bytes false request x refl path come refl named);
        sends = λ server sends. there;
      }) o

  -- a write is served
  taking_keeps : (v : WorldState) (from : Endpoint) (bytes : List ℕ) (request : Request) (path : List ℕ)
      (agreed : List Known) (report : Report) →
      IsNewly two_hosts views ok.messages from bytes true request → AreGranted agreed →
      path_of_name request.name ≡ Ok path →
      OpeningStep w (receiving_end w from bytes request.mode path agreed) report v → Kept v
  taking_keeps v from bytes request path [] report come granted named o =
      let x = receiving_end w from bytes request.mode path [] in
      let opens =
      opens_to_store two_hosts first views ok.messages x.address from bytes request path []
      w.retries ok.shown (host_server x.address refl) (none_at_next x.address refl) come granted in
      let spelled = spells_at x.state.position.last_sent opens.packet opens.valid opens.last_sent in
      opening_keeps first strangers w v ok x report opens.packet spelled opens.shown (at_server x.address refl) refl
      refl (record { phase = opens.kept.phase; held_back = opens.kept.held_back; committed = opens.kept.committed })
      refl refl (record {
        asked = λ server. (from, refl, asked_from from bytes true request x refl path come refl named);
        sends = λ server sends. absurd (true≢false (sym sends));
      }) o
  taking_keeps v from bytes request path (known ∷ agreed) report come granted named o =
      let x = receiving_end w from bytes request.mode path (known ∷ agreed) in
      let opens =
      opens_to_store two_hosts first views ok.messages x.address from bytes request path (known ∷ agreed) w.retries
      ok.shown (host_server x.address refl) (none_at_next x.address refl) come granted in
      let spelled = spells_at x.state.position.last_sent opens.packet opens.valid opens.last_sent in
      opening_keeps first strangers w v ok x report opens.packet spelled opens.shown (at_server x.address refl) refl
      refl (record { phase = opens.kept.phase; held_back = opens.kept.held_back; committed = opens.kept.committed })
      refl refl (record {
        asked = λ server. (from, refl, asked_from from bytes true request x refl path come refl named);
        sends = λ server sends. absurd (true≢false (sym sends));
      }) o

  -- the request port refuses
  refusing_keeps : (v : WorldState) (from : Endpoint) (reply : ErrorReply) →
      v ≡ said_in w (datagram request_port from (error_bytes reply)) → Kept v
  refusing_keeps v from reply e =
      subst Kept (sym e)
      (saying_keeps first strangers w ok request_port from (error_bytes reply) (error_packet reply)
      (spells_own (error_packet reply) (valid_error reply))
      (says_error two_hosts first views ok.messages ok.shown request_port from)
      (at_server request_port refl))

  module _ (v : WorldState) (from : Endpoint) (bytes : List ℕ) (report : Report) where
    abbrev Kept_by : Service → Type 0
    Kept_by service = ServiceStep service w from bytes report v → Kept v

    refused : (reply : ErrorReply) → Kept_by (Refused reply)
    refused reply h = refusing_keeps v from reply h.1

    -- a read with the server's answer to its options
    sending_served : (path file : List ℕ) (mode : Mode) (options : List RawOption) (a : Result (List Known) Refusal) →
        AsksOnce ok.messages w.ends from bytes false mode (Ok path) →
        file_at w.files path ≡ Some file → answer options kinds.Read mode (measured mode file) w.limits ≡ a →
        Kept_by (by_length path mode (measured mode file) a)
    sending_served path file mode options (Err refusal) come there e = refused (accept_reply refusal)
    sending_served path file mode options (Ok agreed) come there e =
        let m = measured mode file in
        if_acts Kept_by (nat_lt m (65535 * size agreed)) (Sends path mode m agreed) (Refused FileTooLarge)
        (λ f o.
        let few : m < 65535 * size agreed = ltb-true m (65535 * size agreed) f in
        let b : size agreed ≤ MAX_BLOCK = answer_small options kinds.Read mode m w.limits agreed ok.max_block e in
        let fits : Fits (wire_text mode file) (size agreed) = measured_fits mode file (size agreed) b few in
        let small : m < 65535 * MAX_BLOCK = omega arith in
        let same : o.0 ≡ file = same_Some o.0 file (sym o.1 ∙ there) in
        subst
        (λ (n : Mode). Fits (wire_text n file) (size agreed) →
        OpeningStep w (sending_end w from bytes n path file agreed) report v → Kept v) come.1
        (λ fits.
        sending_keeps v from bytes come.0 path file agreed report come.3
        (answer_granted options kinds.Read mode m w.limits agreed (omega (arith, small)) ok.max_block e) fits come.2
        there) fits
        (subst (λ (g : List ℕ). OpeningStep w (sending_end w from bytes mode path g agreed) report v) same o.2))
        (λ f. refused FileTooLarge)

    reading_served : (path : List ℕ) (mode : Mode) (options : List RawOption) (there : Option (List ℕ)) →
        AsksOnce ok.messages w.ends from bytes false mode (Ok path) →
        file_at w.files path ≡ there → Kept_by (by_file w.limits path mode options (opened_of mode there))
    reading_served path mode options None come e = refused FileNotFound
    reading_served path mode options (Some file) come e =
        sending_served path file mode options (answer options kinds.Read mode (measured mode file) w.limits) come e refl

    -- a write with the server's answer to its options
    taking_served :
        (path : List ℕ) (mode : Mode) (options : List RawOption) (there : Option (List ℕ)) (agreed : List Known) →
        AsksOnce ok.messages w.ends from bytes true mode (Ok path) →
        answer options kinds.Write mode 0 w.limits ≡ Ok agreed → Kept_by (by_draft path mode agreed (begun_of there))
    taking_served path mode options None agreed come e =
        subst
        (λ (n : Mode). OpeningStep w (receiving_end w from bytes n path agreed) report v → Kept v) come.1
        (taking_keeps v from bytes come.0 path agreed report come.3
        (answer_granted options kinds.Write mode 0 w.limits agreed (omega arith) ok.max_block e) come.2)
    taking_served path mode options (Some file) agreed come e = refused FileExists

    -- the result of what the port asks
    abbrev Kept_asking : Ask → Type 0
    Kept_asking ask = Kept_by (served w ask)

    writing_served : (path : List ℕ) (mode : Mode) (options : List RawOption) (a : Result (List Known) Refusal) →
        AsksOnce ok.messages w.ends from bytes true mode (Ok path) →
        answer options kinds.Write mode 0 w.limits ≡ a → Kept_asking (by_options path mode a)
    writing_served path mode options a come e = search (rules, refused, taking_served)

    named_served : (write : Bool) (mode : Mode) (next : List ℕ → Ask) → ((path : List ℕ) →
        AsksOnce ok.messages w.ends from bytes write mode (Ok path) → Kept_asking (next path)) →
        (path : Result (List ℕ) PathFault) → AsksOnce ok.messages w.ends from bytes write mode path →
        Kept_asking (by_name w.cap (open_transfers w.ends) next path)
    named_served write mode next each (Err fault) come = refused AccessViolation
    named_served write mode next each (Ok path) come =
        if_acts Kept_asking (nat_le w.cap (open_transfers w.ends)) (Refuses ServerBusy) (next path)
        (λ b. refused ServerBusy) (λ b. each path come)

    unless_repeated : (repeated : Bool) (ask : Ask) → (repeated ≡ false → Kept_asking ask) →
        Kept_asking (by_repeat repeated ask)
    unless_repeated repeated ask kept = search (rules, if_acts, stays_ok)

    by_request : (repeated : Bool) (decoded : Option WirePacket) → AsksSo ok.messages w.ends from bytes repeated decoded →
        Kept_asking (by_packet w.cap (open_transfers w.ends) repeated w.limits decoded)
    by_request repeated (Some (Read r)) come =
        unless_repeated repeated
        (by_name w.cap (open_transfers w.ends) (λ path. Reads path r.mode r.options) (path_of_name r.name))
        (λ new.
        named_served false r.mode (λ path. Reads path r.mode r.options)
        (λ path asked. reading_served path r.mode r.options (file_at w.files path) asked refl)
        (path_of_name r.name) (come false r refl new))
    by_request repeated (Some (Write r)) come =
        unless_repeated repeated
        (by_name w.cap (open_transfers w.ends)
        (λ path. by_options path r.mode (answer r.options kinds.Write r.mode 0 w.limits)) (path_of_name r.name))
        (λ new. named_served true r.mode (λ path. by_options path r.mode (answer r.options kinds.Write r.mode 0 w.limits))
        (λ path asked.
        writing_served path r.mode r.options (answer r.options kinds.Write r.mode 0 w.limits) asked refl)
        (path_of_name r.name) (come true r refl new))
    by_request repeated decoded come = refused IllegalOperation

    -- the request port keeps the world
    pub serving_keeps : (repeated : Bool) (decoded : Option WirePacket) →
        AsksSo ok.messages w.ends from bytes repeated decoded → Kept_by (service w repeated bytes decoded)
    serving_keeps repeated decoded come = search (rules, if_acts, stays_ok, by_request)
