-- A turn of an end, an opening and an ERROR keep a world. For seven other files.
use Rattle.tftp_player.proofs.Common.{common_steps, ◌≡◌, ℕ, ◌+◌, length, Bool, true, false, List, [], ◌∷◌, ◌++◌, map}
use Rattle.tftp_player.proofs.Common.{set, Option, Some, None, sym, refl, ap, ◌∙◌, subst, arith, inl, inr, rules, ◌≢◌}
use Rattle.tftp_player.proofs.Common.{◌⊎◌, ◌&&◌, not, slice_get, option_map, Contains, true≢false}
use Rattle.tftp_player.proofs.Common.{Contains-append_cases, Contains-append_left, Spells, Files, Holding, wire_text}
use Rattle.tftp_player.proofs.Common.{is_sender, is_client, is_complete, outcome_of, terms_of, Terms, Turn, Reply}
use Rattle.tftp_player.proofs.Common.{request_port, two_hosts, Endpoint, Elsewhere, Message, Machine, Rule, message}
use Rattle.tftp_player.proofs.Common.{said, OpenEnd, end_after, EndView, IsShownWithin, shown_by, WorldState, WorldEnd}
use Rattle.tftp_player.proofs.Common.{Open_end, end_address, end_file, end_stored, StoredFile, file_at, datagram}
use Rattle.tftp_player.proofs.Common.{replied, standing, has_committed, world_after, opened_in, said_in, view_of_end}
use Rattle.tftp_player.proofs.Common.{FilesAfter, Turns, OpeningStep, HasAsker, HasPorts, IsKeptIn, RefinesAt}
use Rattle.tftp_player.proofs.Common.{RefinesWithin, Datagram, Report, slice_get-set_cases, slice_get-push_cases}
use Rattle.tftp_player.proofs.Common.{map-set, Contains-append_right, Contains-push, slice_get-map, WirePacket, host_of}
use Rattle.tftp_player.proofs.Common.{EndKept, home, Holds, Shows}
use Rattle.std.proofs.lemmas.List.{map-append}
use Rattle.tftp_rules.specs.Recorded.{AreRecorded}
use Rattle.tftp_rules.specs.EndShown.{Goes, Replies, Newest}
use Rattle.tftp_player.specs.World.{end_path}
use Rattle.tftp_player.specs.WorldKept.{StandsIn, SaysSo, MaySpeak}
use Rattle.tftp_player.proofs.Standing.{standing_address, standing_shown, standing_kept}

-- the empty list contains nothing
pub nothing_in : {X : Type 0} (x : X) → Contains [] x → ⊥
nothing_in x h = let l = h.1 in omega arith

-- a list of one element contains only it
pub one_in : {X : Type 0} (x y : X) → Contains (y ∷ []) x → y ≡ x
one_in x y h = search rules

here_in : {X : Type 0} (x : X) → Contains (x ∷ []) x
here_in x = Contains-push [] x

-- a datagram whose bytes spell a packet says it
pub says_message : (from to : Endpoint) (bytes : List ℕ) (p : WirePacket) → Spells p bytes →
    SaysSo (datagram from to bytes) (message from to (said p))
says_message from to bytes p s = record { packet = p; spells = s; says = refl }

-- an answer is a datagram that says what was said
reply_said : (from : Endpoint) (reply : Option Reply) (said_now : List Message) → Replies from reply said_now →
    (d : Datagram) → Contains (replied from reply) d →
    (m : Message) × SaysSo d m × Contains said_now m
reply_said from None said_now r d i = absurd (nothing_in d i)
reply_said from (Some reply) said_now r d i =
    let m = message from reply.to (said r.0) in
    let e = one_in d (datagram from reply.to reply.bytes) i in (
      m,
      subst (λ (z : Datagram). SaysSo z m) e (says_message from reply.to reply.bytes r.0 r.1),
      subst (λ (ms : List Message). Contains ms m) (sym r.2) (here_in m),
    )

said_reply : (from : Endpoint) (reply : Option Reply) (said_now : List Message) → Replies from reply said_now →
    (m : Message) → Contains said_now m →
    (d : Datagram) × Contains (replied from reply) d × SaysSo d m
said_reply from None said_now r m i = absurd (nothing_in m (subst (λ (ms : List Message). Contains ms m) r i))
said_reply from (Some reply) said_now r m i =
    let d = datagram from reply.to reply.bytes in
    let e = one_in m (message from reply.to (said r.0)) (subst (λ (ms : List Message). Contains ms m) r.2 i) in
    (d, here_in d, subst (λ (z : Message). SaysSo d z) e (says_message from reply.to reply.bytes r.0 r.1))

-- the two hosts are not elsewhere
pub home_not_elsewhere : (b : Bool) → home b ≢ Elsewhere
home_not_elsewhere true e = cc
home_not_elsewhere false e = cc

-- the end at an index is shown there
pub view_at : (ends : List WorldEnd) (k : ℕ) (x : WorldEnd) → slice_get ends k ≡ Some x →
    slice_get (map view_of_end ends) k ≡ Some (view_of_end x)
view_at ends k x e = slice_get-map view_of_end ends k ∙ ap (option_map view_of_end) e

viewed : (e : EndView) (o : Option WorldEnd) → option_map view_of_end o ≡ Some e →
    (x : WorldEnd) × (o ≡ Some x) × (view_of_end x ≡ e)
viewed e o h = search rules

-- an end that is shown is one of the world
pub viewed_at : (ends : List WorldEnd) (k : ℕ) (e : EndView) → slice_get (map view_of_end ends) k ≡ Some e →
    (x : WorldEnd) × (slice_get ends k ≡ Some x) × (view_of_end x ≡ e)
viewed_at ends k e i = viewed e (slice_get ends k) (sym (slice_get-map view_of_end ends k) ∙ i)

-- a machine that keeps its invariant shows a world that keeps its own
pub world_machine : (first : List Rule) (strangers : Bool) (w : WorldState) (ok : RefinesAt first strangers w) →
    (m : Machine) × Holds two_hosts m × AreRecorded two_hosts m × Shows (map view_of_end w.ends) ok.messages m
world_machine first strangers w ok = shown_by two_hosts (map view_of_end w.ends) ok.messages (first, ok.shown)

-- each end is at one of the two hosts
pub at_home : (first : List Rule) (strangers : Bool) (w : WorldState) → RefinesAt first strangers w →
    (k : ℕ) (x : WorldEnd) → slice_get w.ends k ≡ Some x → host_of (end_address x) ≢ Elsewhere
at_home first strangers w ok k x e f =
    let by = world_machine first strangers w ok in
    let there = by.3.ends k (view_of_end x) (view_at w.ends k x e) in
    let h = (by.1.ends (end_address x) there.is_open).at_home in
    home_not_elsewhere (by.0.party (end_address x)).client (sym h ∙ f)

-- an end that stays at its endpoint has the port of its index
pub ports_set : (w : WorldState) (k : ℕ) (x y : WorldEnd) → HasPorts w → slice_get w.ends k ≡ Some x →
    end_address y ≡ end_address x → HasPorts (record w { ends = set w.ends k y })
ports_set w k x y ports at same j z i = search (rules, slice_get-set_cases)

-- so has an end that opens at the next port
pub ports_push : (w : WorldState) (x : WorldEnd) → HasPorts w → (end_address x).port ≡ 1024 + length w.ends →
    HasPorts (record w { ends = w.ends ++ x ∷ [] })
ports_push w x ports port j z i = search (rules, slice_get-push_cases)

-- the terms of an end stay in a turn
abbrev pub TermsStay : OpenEnd → Turn → Type 0
TermsStay x turn =
    (agreed : Terms) → terms_of x.state.position.phase ≡ Some agreed → terms_of turn.position.phase ≡ Some agreed

turned_asked : (w : WorldState) (x : OpenEnd) (turn : Turn) (held : Files (List ℕ) Holding) → TermsStay x turn →
    HasAsker w (Open_end x) → HasAsker w (Open_end (end_after x turn held))
turned_asked w x turn held stays h = search rules

-- the files stay under their paths
files_stay : (overwrite b : Bool) (path bytes : List ℕ) (old new : List StoredFile) →
    FilesAfter overwrite b path bytes old new → overwrite ≡ false → (q c : List ℕ) → file_at old q ≡ Some c →
    file_at new q ≡ Some c
files_stay overwrite b path bytes old new h kept q c e = search rules

-- ---- an end to which nothing happened, in a world where more was sent: what held of it holds still
-- its newest datagram was sent
still_stands : (w v : WorldState) (added : List Datagram) (x : WorldEnd) → v.sent ≡ w.sent ++ added → StandsIn w x →
    StandsIn v x
still_stands w v added x more h = grind (arith, common_steps)

-- so was the request that opened it
still_asked : (w v : WorldState) (added : List Datagram) (x : WorldEnd) → v.sent ≡ w.sent ++ added → HasAsker w x →
    HasAsker v x
still_asked w v added x more h = (
  h.0,
  h.1,
  λ near.
      let q = h.2 near in
      let d = datagram h.0 request_port q.sent.0 in
      record {
        write = q.write;
        request = q.request;
        sent = (
          q.sent.0,
          subst (λ (ds : List Datagram). Contains ds d) (sym more) (Contains-append_left w.sent added d q.sent.1),
          q.sent.2,
        );
        opened = q.opened;
        path = q.path;
      },
)

-- and its file is under its path, if the files of the server stay
still_kept : (w v : WorldState) (added : List Datagram) (x : WorldEnd) → v.sent ≡ w.sent ++ added →
    v.overwrite ≡ w.overwrite →
    (w.overwrite ≡ false → (q c : List ℕ) → file_at w.files q ≡ Some c → file_at v.files q ≡ Some c) → IsKeptIn w x →
    IsKeptIn v x
still_kept w v added x more set_same stay h = record {
  stands = still_stands w v added x more h.stands;
  asked = λ server. still_asked w v added x more (h.asked server);
  sends = λ o c s. let kept = sym set_same ∙ o in stay kept (end_path x) (end_file x) (h.sends kept c s);
  stored = λ o c r d. let kept = sym set_same ∙ o in stay kept (end_path x) (end_stored x) (h.stored kept c r d);
  text = h.text;
}

-- what was sent and what is there, after an answer
module _ (first : List Rule) (strangers : Bool) (w : WorldState) (ok : RefinesAt first strangers w) (from : Endpoint)
    (own : host_of from ≢ Elsewhere)
    (reply : Option Reply) (said_now : List Message) (r : Replies from reply said_now) where
  -- after a turn each datagram is said by a message
  pub sent_then : (d : Datagram) → Contains (w.sent ++ replied from reply) d →
      (m : Message) × SaysSo d m × Contains (ok.messages ++ said_now) m
  sent_then d i = elim (Contains-append_cases w.sent (replied from reply) d i) [
    | inl o ↦ let h = ok.sent d o in (h.0, h.1, Contains-append_left ok.messages said_now h.0 h.2)
    | inr n ↦ let h = reply_said from reply said_now r d n in
        (h.0, h.1, Contains-append_right ok.messages said_now h.0 h.2)
  ]

  -- and each message is of a datagram, or from elsewhere
  pub only_then : (m : Message) → Contains (ok.messages ++ said_now) m →
      ((d : Datagram) × Contains (w.sent ++ replied from reply) d × SaysSo d m) ⊎ (host_of m.from ≡ Elsewhere)
  only_then m i = elim (Contains-append_cases ok.messages said_now m i) [
    | inl o ↦ elim (ok.only m o) [
      | inl h ↦ inl (h.0, Contains-append_left w.sent (replied from reply) h.0 h.1, h.2)
      | inr f ↦ inr f
    ]
    | inr n ↦ let h = said_reply from reply said_now r m n in
        inl (h.0, Contains-append_right w.sent (replied from reply) h.0 h.1, h.2)
  ]

  -- and of an end that may speak
  pub speakers_then : (m : Message) → Contains (ok.messages ++ said_now) m → MaySpeak strangers m.from
  speakers_then m i = grind (arith, common_steps)

-- by whether an end was complete before
complete_then : (old_done client old_committed new_committed : Bool) → old_committed ≡ old_done → new_committed ≡ true →
    client ≡ false →
    (old_done ≡ true × (not client && (not old_committed && new_committed)) ≡ false)
    ⊎ ((not client && (not old_committed && new_committed)) ≡ true)
complete_then old_done client old_committed new_committed o n c = search rules

-- ---- a turn of an end
module _ (first : List Rule) (strangers : Bool) (w v : WorldState) (ok : RefinesAt first strangers w) (k : ℕ)
    (x : OpenEnd) (turn : Turn) (held : Files (List ℕ) Holding) (report : Report)
    (at : slice_get w.ends k ≡ Some (Open_end x))
    (g : Goes two_hosts first (map view_of_end w.ends) ok.messages k x turn (end_after x turn held))
    (terms : TermsStay x turn) (t : Turns w k x turn held report v) where
  abbrev y : OpenEnd
  y = end_after x turn held

  abbrev now : WorldState
  now = world_after w k x turn held t.files

  abbrev more : List Datagram
  more = replied x.address turn.reply

  was : IsKeptIn w (Open_end x)
  was = ok.ends k (Open_end x) at

  client_was : is_client y.state.role.side ≡ false → is_client x.state.role.side ≡ false
  client_was c = ap is_client (sym g.side) ∙ c

  last_sent_is : Newest x turn y →
      Contains (w.sent ++ more) (datagram x.address y.state.position.last_sent_to y.state.position.last_sent)
  last_sent_is (inl e) =
      subst (λ (p : Endpoint). Contains (w.sent ++ more) (datagram x.address p y.state.position.last_sent)) (sym e.0)
      (subst (λ (b : List ℕ). Contains (w.sent ++ more) (datagram x.address x.state.position.last_sent_to b)) (sym e.1)
      (Contains-append_left w.sent more _ was.stands.last_sent))
  last_sent_is (inr e) =
      let d = datagram x.address y.state.position.last_sent_to y.state.position.last_sent in
      Contains-append_right w.sent more d
      (subst (λ (r : Option Reply). Contains (replied x.address r) d) (sym e) (here_in d))

  stays : w.overwrite ≡ false → (q c : List ℕ) → file_at w.files q ≡ Some c → file_at t.files q ≡ Some c
  stays =
      files_stay w.overwrite (not (is_client x.state.role.side) && has_committed x y) x.path y.stored w.files t.files
      t.stored

  asked_is : is_client y.state.role.side ≡ false → HasAsker now (Open_end y)
  asked_is c = still_asked w now more (Open_end y) refl (turned_asked w x turn held terms (was.asked (client_was c)))

  sends_is : w.overwrite ≡ false → is_client y.state.role.side ≡ false → is_sender y.state.role.side ≡ true →
      file_at t.files y.path ≡ Some y.file
  sends_is o c s = stays o x.path x.file (was.sends o (client_was c) (ap is_sender (sym g.side) ∙ s))

  stored_is : w.overwrite ≡ false → is_client y.state.role.side ≡ false → is_sender y.state.role.side ≡ false →
      is_complete y.state.position.phase ≡ true → file_at t.files y.path ≡ Some y.stored
  stored_is o c r d =
      let receiver : is_sender x.state.role.side ≡ false = ap is_sender (sym g.side) ∙ r in
      let new : y.committed ≡ true = g.kept.committed r ∙ d in
      elim (complete_then (is_complete x.state.position.phase) (is_client x.state.role.side) x.committed y.committed
      (was.stands.kept.committed receiver) new (client_was c)) [
        | inl h ↦
            stays o x.path y.stored
            (was.stored o (client_was c) receiver h.0 ∙ ap (λ (z : List ℕ). Some z) (sym (g.stored h.0)))
        | inr h ↦ (subst (λ (b : Bool). FilesAfter w.overwrite b x.path y.stored w.files t.files) h t.stored).here
      ]

  own : host_of x.address ≢ Elsewhere
  own = at_home first strangers w ok k (Open_end x) at

  -- it keeps the world
  pub turn_keeps : RefinesWithin 3 first strangers v
  turn_keeps = subst (λ (z : WorldState). RefinesWithin 3 first strangers z) (sym t.is) (record {
    messages = ok.messages ++ g.said_now;
    shown =
        subst (λ (vs : List EndView). IsShownWithin two_hosts 3 first vs (ok.messages ++ g.said_now))
        (sym (map-set view_of_end w.ends k (standing y)))
        (standing_shown first (map view_of_end w.ends) (ok.messages ++ g.said_now) k (view_of_end (Open_end x)) y
        (view_at w.ends k (Open_end x) at) g.shown);
    sent = sent_then first strangers w ok x.address own turn.reply g.said_now g.replies;
    only = only_then first strangers w ok x.address own turn.reply g.said_now g.replies;
    speakers = speakers_then first strangers w ok x.address own turn.reply g.said_now g.replies;
    ports = ports_set w k (Open_end x) (standing y) ok.ports at (standing_address y);
    max_block = ok.max_block;
    ends = λ j z i. elim (slice_get-set_cases w.ends k j (standing y) z i) [
      | inl h ↦ subst (λ (u : WorldEnd). IsKeptIn now u) (sym h.1)
          (standing_kept now y g.kept (last_sent_is g.last_sent) stored_is was.text asked_is sends_is)
      | inr h ↦ still_kept w now more z refl refl stays (ok.ends j z h.1)
    ];
  })

-- an end that opens at the server was asked for, and sends the file under its path
pub record OpensAsked (w : WorldState) (x : OpenEnd) : Type 0 where
  pub asked : is_client x.state.role.side ≡ false → HasAsker w (Open_end x)
  pub sends : is_client x.state.role.side ≡ false → is_sender x.state.role.side ≡ true →
      file_at w.files x.path ≡ Some x.file

-- a client does not open at the server
pub opens_elsewhere : (w : WorldState) (x : OpenEnd) → is_client x.state.role.side ≡ true → OpensAsked w x
opens_elsewhere w x client = search rules

-- an end that opened keeps the world
pub opening_keeps :
    (first : List Rule) (strangers : Bool) (w v : WorldState) (ok : RefinesAt first strangers w) (x : OpenEnd)
    (report : Report) (p : WirePacket) →
    Spells p x.state.position.last_sent →
    IsShownWithin two_hosts 3 first (map view_of_end w.ends ++ view_of_end (Open_end x) ∷ [])
    (ok.messages ++ message x.address x.state.position.last_sent_to (said p) ∷ []) →
    host_of x.address ≢ Elsewhere → x.address.port ≡ 1024 + length w.ends → outcome_of x.state.position.phase ≡ None →
    EndKept two_hosts x → is_complete x.state.position.phase ≡ false → x.text ≡ wire_text x.state.role.mode x.file →
    OpensAsked w x → OpeningStep w x report v → RefinesWithin 3 first strangers v
opening_keeps first strangers w v ok x report p spells shown own port still kept incomplete wire opens o =
    subst (λ (z : WorldState). RefinesWithin 3 first strangers z) (sym o.is) later where
      later : RefinesWithin 3 first strangers (opened_in w x)
      later =
          let reply : Option Reply =
          Some (record { to = x.state.position.last_sent_to; bytes = x.state.position.last_sent }) in
          let m = message x.address x.state.position.last_sent_to (said p) in
          let r : Replies x.address reply (m ∷ []) = (p, spells, refl) in
          record {
            messages = ok.messages ++ m ∷ [];
            shown =
                subst (λ (vs : List EndView). IsShownWithin two_hosts 3 first vs (ok.messages ++ m ∷ []))
                (sym (map-append view_of_end w.ends (Open_end x ∷ []))) shown;
            sent = sent_then first strangers w ok x.address own reply (m ∷ []) r;
            only = only_then first strangers w ok x.address own reply (m ∷ []) r;
            speakers = speakers_then first strangers w ok x.address own reply (m ∷ []) r;
            ports = ports_push w (Open_end x) ok.ports port;
            max_block = ok.max_block;
            ends = λ j z i. elim (slice_get-push_cases w.ends j (Open_end x) z i) [
              | inl h ↦
                  still_kept w (opened_in w x) (replied x.address reply) z refl refl (λ o q c e. e) (ok.ends j z h)
              | inr h ↦ subst (λ (u : WorldEnd). IsKeptIn (opened_in w x) u) (sym h.1) (record {
                stands = record {
                  still = still;
                  kept = kept;
                  last_sent = let d = datagram x.address x.state.position.last_sent_to x.state.position.last_sent in
                      Contains-append_right w.sent (replied x.address reply) d (here_in d);
                };
                asked = λ server.
                    still_asked w (opened_in w x) (replied x.address reply) (Open_end x) refl (opens.asked server);
                sends = λ o server s. opens.sends server s;
                stored = λ o c f d. absurd (true≢false (sym d ∙ incomplete));
                text = wire;
              })
            ];
          }

-- a datagram that changes no end keeps the world
pub saying_keeps :
    (first : List Rule) (strangers : Bool) (w : WorldState) (ok : RefinesAt first strangers w) (from to : Endpoint)
    (bytes : List ℕ) (p : WirePacket) →
    Spells p bytes →
    IsShownWithin two_hosts 3 first (map view_of_end w.ends) (ok.messages ++ message from to (said p) ∷ []) →
    host_of from ≢ Elsewhere →
    RefinesWithin 3 first strangers (said_in w (datagram from to bytes))
saying_keeps first strangers w ok from to bytes p spells shown own =
    let reply : Option Reply = Some (record { to = to; bytes = bytes }) in
    let m = message from to (said p) in
    let r : Replies from reply (m ∷ []) = (p, spells, refl) in
    record {
      messages = ok.messages ++ m ∷ [];
      shown = shown;
      sent = sent_then first strangers w ok from own reply (m ∷ []) r;
      only = only_then first strangers w ok from own reply (m ∷ []) r;
      speakers = speakers_then first strangers w ok from own reply (m ∷ []) r;
      ports = ok.ports;
      max_block = ok.max_block;
      ends =
          λ j z i.
          still_kept w (said_in w (datagram from to bytes)) (replied from reply) z refl refl (λ o q c e. e)
          (ok.ends j z i);
    }
