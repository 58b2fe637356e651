-- The end of the server that a request opens: its side, its peer, and the text that it sends first.
use Rattle.tftp_promises.proofs.Common.{List, ℕ, ◌≡◌, rules, sym, Endpoint, refl, [], ◌∙◌, ap, SourceMeaning, Some}
use Rattle.tftp_promises.proofs.Common.{subst, inl, StoreMeaning, ◌∷◌, SinkMeaning, false, true, None, ◌++◌, Programs}
use Rattle.tftp_promises.proofs.Common.{Bool, EndState, SocketEvent, true≢false, arith, LoopState, length}
use Rattle.tftp_promises.proofs.Common.{TransferState, joined, outcome_of, OpenEnd, is_sender, Snapshot, Moved, Mode}
use Rattle.tftp_promises.proofs.Common.{Sink, Source, ServerState, ◌≤◌, IsPrefixOf, server_did, IsBlockSize, moved_at}
use Rattle.tftp_promises.proofs.Common.{peer_of, opened_at, Request_answered, WireRequest, Known, Config}
use Rattle.tftp_promises.proofs.Common.{AnswersRequest, requested, opened_ports, serving_read, RawOption, place}
use Rattle.tftp_promises.proofs.Common.{DEFAULT_BLOCK, take, serving_write, drop, first_moved, block}
use Rattle.std.proofs.Common.{rules as std_rules}
use Rattle.std.proofs.lemmas.List.{take_min, drop_min}
use Rattle.tftp_rules.specs.EndOpens.{left_at_first, sending, IsNewly, new_receiver, new_sender}
use Rattle.tftp_rules.proofs.FirstSent.{first_want}
use Rattle.tftp_store.specs.Drafts.{Took_nothing}
use Rattle.tftp_rules.proofs.EndOpenings.{opens_to_send, opens_to_store}
use Rattle.tftp_promises.proofs.Requested.{IsFirst, Begins_to_send, Begins_to_store, OpensToSend, OpensToStore}
use Rattle.tftp_promises.proofs.Requested.{PortAnswers, Says_error, Silent, port_answers, IsAsked}
use Rattle.tftp_promises.proofs.Texts.{begins_by_take, then_rest, begins_padded, pad_length}
use Rattle.tftp_promises.proofs.MovedSends.{gave_first}
use Rattle.tftp_promises.proofs.Invariant.{GaveSo, IsFreshBy, IsKept, IsNamed, IsGiven, IsTaken, length_of, place_text}
use Rattle.tftp_promises.proofs.KeptAsks.{says_request}
use Rattle.tftp_promises.proofs.KeptOpenings.{at_server, its_place, moved_here, none_there, opened_here, opening_keeps}
use Rattle.tftp_promises.proofs.KeptOpenings.{refusal_keeps, silent_keeps}
use Rattle.tftp_promises.proofs.TransferLives.{run_config}
use Rattle.tftp_promises.proofs.Unanswered.{none_answers}

-- an end that opens: it sends or receives, in this mode, and has the client as its peer
record OpensSo (e : EndState) (sends : Bool) (client : Endpoint) (its_mode : Mode) : Type 0 where
  side : is_sender e.role.side ≡ sends
  mode : e.role.mode ≡ its_mode
  peer : peer_of e.position.phase ≡ Some client
  still : outcome_of e.position.phase ≡ None

read_opens : (agreed : List Known) (client : Endpoint) (mode : Mode) (measured retries : ℕ) (piece : List ℕ) →
    OpensSo (serving_read agreed client mode measured retries piece) true client mode
read_opens agreed client mode measured retries piece = search rules

write_opens : (agreed : List Known) (client : Endpoint) (mode : Mode) (retries : ℕ) →
    OpensSo (serving_write agreed client mode retries) false client mode
write_opens agreed client mode retries = search rules

read_length : (agreed : List Known) (peer : Endpoint) (mode : Mode) (measured retries : ℕ) (piece : List ℕ) →
    (serving_read agreed peer mode measured retries piece).role.length ≡ measured
read_length agreed peer mode measured retries piece = search rules

write_moves_none : (agreed : List Known) (peer : Endpoint) (mode : Mode) (retries : ℕ) →
    (first_moved (serving_write agreed peer mode retries)).bytes ≡ []
write_moves_none agreed peer mode retries = search rules

-- what a read sends first is of the text that begins so
first_of_text : (agreed : List Known) (peer : Endpoint) (mode : Mode) (measured retries : ℕ) (piece text : List ℕ) →
    IsFirst agreed measured piece → length text ≡ measured →
    (length (first_moved (serving_read agreed peer mode measured retries piece)).bytes ≤ measured →
    IsPrefixOf (first_moved (serving_read agreed peer mode measured retries piece)).bytes text) →
    (serving_read agreed peer mode measured retries piece ≡ sending agreed peer mode text retries)
    × IsPrefixOf (first_moved (serving_read agreed peer mode measured retries piece)).bytes text
    × ((first_moved (serving_read agreed peer mode measured retries piece)).bytes ++ left_at_first agreed text ≡ text)
first_of_text [] peer mode measured retries piece text first long begins =
    let want = first_want measured (length text) (sym long) in
    let short : length piece ≤ measured = omega (arith, first, want, long) in
    let b = begins short in
    let is =
    sym (begins_by_take _ _ b) ∙ (ap (λ (n : ℕ). take n text) (first ∙ want) ∙ take_min DEFAULT_BLOCK text) in (
      ap (λ (n : ℕ). serving_read [] peer mode n retries piece) (sym long) ∙ ap (λ (p : List ℕ). serving_read [] peer
          mode (length text) retries p) is,
      b,
      ap (λ (ts : List ℕ). piece ++ ts) (sym (drop_min DEFAULT_BLOCK text) ∙ ap (λ (n : ℕ). drop n text) (sym (first ∙
          want))) ∙ then_rest _ _ b,
    )
first_of_text (known ∷ agreed) peer mode measured retries piece text first long begins = search std_rules

-- A request that the request port answers keeps the invariant.

module _ {S F D G K : Type 0} {stores : StoreMeaning S D} {sources : SourceMeaning F} {inputs : SourceMeaning G}
    {outputs : SinkMeaning K} {programs : Programs stores sources inputs outputs} {pad : ℕ} {old : Snapshot programs}
    (kept : IsKept pad old) {new : LoopState S F D} (answers : AnswersRequest stores sources old.state new)
    (added : List SocketEvent) (noted : new.events ≡ added ++ old.state.events)
    (fresh : IsFreshBy (server_did old (Request_answered answers) added)) where
  abbrev server : ServerState S F D
  server = old.state.server

  abbrev now : Snapshot programs
  now = server_did old (Request_answered answers) added

  -- the place of a transfer that opens
  abbrev a : Endpoint
  a = place programs (length (opened_ports old.run)) answers.from answers.tid

  -- ---- what the request is
  -- it was sent, and no end answers it
  newly : (write : Bool) (path : List ℕ) (mode : Mode) (options : List RawOption)
      (asked : IsAsked answers.steps.decoded answers.steps.repeated write path mode options) →
      IsNewly (joined programs) kept.views kept.messages answers.from answers.bytes write asked.request
  newly write path mode options asked =
      let packet = requested write asked.request in
      let spells = rw (asked.packet) at answers.steps.says in
      let come = kept.server.pending answers.from answers.bytes answers.pending in
      search (
        rw (says_request write asked.request) at (come packet spells),
        none_answers kept _ _ _ _ answers.steps.repeats asked.packet asked.new,
      )

  -- and it is for this path
  named : (write : Bool) (path : List ℕ) (mode : Mode) (options : List RawOption)
      (asked : IsAsked answers.steps.decoded answers.steps.repeated write path mode options) →
      IsNamed path answers.bytes
  named write path mode options asked = search rules

  -- a read
  module _ (path : List ℕ) (mode : Mode) (options : List RawOption)
      (asked : IsAsked answers.steps.decoded answers.steps.repeated false path mode options)
      (o : OpensToSend stores sources server answers.from answers.bytes path asked.request.mode
      options answers.steps.came) where
    abbrev r : WireRequest
    r = asked.request

    -- its transfer
    abbrev sent : TransferState F D
    sent =
        record {
          end = serving_read o.agreed answers.from r.mode o.measured server.config.retries o.piece;
          files = Source o.rest;
          path = path;
          request = answers.bytes;
        }

    sending_keeps : IsKept pad now
    sending_keeps =
        let text = place_text programs pad a in
        let told = fresh.told a (its_place kept _ _ noted fresh _ _ o.is) in
        let its_opening = opened_here kept _ _ noted fresh _ _ o.is in
        let moved = moved_here kept _ _ noted fresh _ _ o.is in
        let long_so = read_length o.agreed answers.from r.mode o.measured server.config.retries o.piece in
        let long = ap length_of (sym told.opened) ∙ (ap length_of its_opening ∙ long_so) in
        let measured =
        pad_length pad (length_of (opened_at programs a programs.server.run)) (moved_at programs a
        programs.server.run).bytes ∙ long in
        let all : List ℕ = (moved_at programs a programs.server.run).bytes in
        let begins = rw (moved) at told.bytes in
        let f =
        first_of_text _ _ _ _ _ _ _ o.first measured (λ short. begins_padded pad _ _ _ begins (rw (long) short)) in
        let x = new_sender a answers.bytes o.agreed answers.from r.mode path [] text server.config.retries in
        let opens =
        read_opens o.agreed answers.from r.mode (length text) server.config.retries (block text DEFAULT_BLOCK 1) in
        let gave = subst (λ (m : Moved). GaveSo x m) (sym moved) (record { prefix = f.1; left = λ _. f.2 }) in
        let opened = rw (sym opens.mode) at o.opened in
        let given : IsGiven programs now.run o.rest x (moved_at programs a now.run) = record {
          opening = o.opening;
          first = inl (refl, opened.0, opened.1, opened.2);
          long = ap (λ (e : EndState). e.role.length) (sym f.0) ∙ (long_so ∙ o.long);
          since = rw (moved) (gave_first o.gave);
        } in
        opening_keeps kept answers added noted fresh sent server.store o.is x refl opens.peer (sym f.0) refl refl (named
        _ _ _ _ asked) opens.still (opens_to_send (joined programs) kept.shown.0 kept.views kept.messages a answers.from
        answers.bytes r path [] text o.agreed server.config.retries kept.shown.1 (at_server kept _ _ noted fresh _ _
        o.is) (none_there kept _ _ noted fresh _ _ o.is) (newly _ _ _ _ asked) o.granted (rw (measured) o.fits))
        (record {
          opened = search (ap (λ (e : EndState). e.role) f.0);
          text = λ _. refl;
          file = (opens.side, gave, given);
        })

  -- a write
  module _ (path : List ℕ) (mode : Mode) (options : List RawOption)
      (asked : IsAsked answers.steps.decoded answers.steps.repeated true path mode options)
      (o : OpensToStore stores sources server answers.from answers.bytes path asked.request.mode
      options answers.steps.came) where
    -- its transfer, and its end
    abbrev stored_by : TransferState F D
    stored_by =
        record {
          end = serving_write o.agreed answers.from asked.request.mode server.config.retries;
          files = Sink o.draft;
          path = path;
          request = answers.bytes;
        }

    abbrev receiver : OpenEnd
    receiver = new_receiver a answers.bytes o.agreed answers.from asked.request.mode path server.config.retries

    storing_keeps : IsKept pad now
    storing_keeps =
        let moved = moved_here kept _ _ noted fresh _ _ o.is in
        let none = write_moves_none o.agreed answers.from asked.request.mode server.config.retries in
        let opens = write_opens o.agreed answers.from asked.request.mode server.config.retries in
        let begun = rw (sym opens.mode) at o.begun in
        let taken : IsTaken programs now.run o.draft receiver (moved_at programs a now.run) = record {
          first = o.draft;
          began = inl (refl, ap (λ (c : Config). c.overwrite) (run_config _ _ old.run), begun.0, begun.1, begun.2);
          since = record {
            going = λ _ _. (rw ((ap (λ (m : Moved). m.bytes) moved ∙ none)) Took_nothing);
            done = λ c. absurd (true≢false (sym c));
          };
        } in
        opening_keeps kept answers added noted fresh stored_by o.store o.is receiver refl opens.peer refl refl refl
        (named _ _ _ _ asked) opens.still (opens_to_store (joined programs) kept.shown.0 kept.views kept.messages a
        answers.from answers.bytes asked.request path o.agreed server.config.retries kept.shown.1 (at_server kept _ _
        noted fresh _ _ o.is) (none_there kept _ _ noted fresh _ _ o.is) (newly _ _ _ _ asked) o.granted) (record {
          opened = search (opened_here kept answers added noted fresh stored_by o.store o.is);
          text = λ s. absurd (true≢false (sym s ∙ opens.side));
          file = search std_rules;
        })

  -- ---- the answer
  kept_by : PortAnswers stores sources server answers.from answers.bytes answers.steps.decoded answers.steps.repeated answers.steps.came → IsKept pad now
  kept_by (Silent is why) = silent_keeps kept _ _ noted is
  kept_by (Says_error r) = refusal_keeps kept _ _ noted r
  kept_by (Begins_to_send path mode options asked opens) =
      sending_keeps path mode options asked (rw (asked.same_mode) opens)
  kept_by (Begins_to_store path mode options asked opens) =
      storing_keeps path mode options asked (rw (asked.same_mode) opens)

  max_block : IsBlockSize server.config.limits.max_block
  max_block = subst (λ (c : Config). IsBlockSize c.limits.max_block) (sym (run_config stores sources old.run)) programs.server.max_block

  -- each answer to a request keeps the invariant
  pub request_keeps : IsKept pad now
  request_keeps = search (rules, kept_by, port_answers, max_block)
