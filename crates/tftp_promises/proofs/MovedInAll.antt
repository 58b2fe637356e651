-- What each transfer was opened for, and what its file has given or taken since, by the invariant in the end state; and
-- what the source of a client has given.
use Rattle.std.proofs.Common.{rules as std_rules}
use Rattle.tftp_promises.proofs.Common.{List, ℕ, ◌≡◌, rules, sym, Endpoint, refl, ◌∙◌, ap, SourceMeaning, Some}
use Rattle.tftp_promises.proofs.Common.{StoreMeaning, SinkMeaning, false, true, Programs, EndState, Files, true≢false}
use Rattle.tftp_promises.proofs.Common.{slice_get, TransferState, ClientOf, is_sender, Sink, Source, moved_in, all_of}
use Rattle.tftp_promises.proofs.Common.{moved_at, opened_at, GaveSince, HasOpened, StoreOpened}
use Rattle.tftp_promises.specs.AnyFiles.{WasGivenBy, WasGiven, WasOpened, WasTaken}
use Rattle.tftp_promises.proofs.ClientTraces.{run_role}
use Rattle.tftp_promises.proofs.Invariant.{ClientKept, FileSo, HasFile, IsGiven, IsKept, IsTaken, TransferKept}
use Rattle.tftp_promises.proofs.Invariant.{client_kept}

module _ {S F D G K : Type 0} {stores : StoreMeaning S D} {sources : SourceMeaning F} {inputs : SourceMeaning G}
    {outputs : SinkMeaning K} (programs : Programs stores sources inputs outputs)
    (kept : IsKept 0 (all_of programs)) where
  module _ (port : ℕ) (transfer : TransferState F D) (a : Endpoint) (there : HasOpened programs port transfer a) where
    abbrev h : TransferKept 0 kept.views kept.messages (all_of programs) port transfer a
    h = kept.transfers port transfer a there

    -- what the server opened there
    pub was_opened : WasOpened programs transfer a
    was_opened =
        search (
          ap (λ (e : Endpoint). opened_at programs e programs.server.run) (sym h.address) ∙ h.has.opened.opened,
          h.has.opened.path ∙ h.path,
          h.has.opened.role ∙ ap (λ (e : EndState). e.role) h.state,
        )

    -- what holds of its end, which is the transfer's
    of_end : (P : List ℕ → List ℕ → EndState → Endpoint → Type 0) →
        P h.end.path h.end.request h.end.state h.end.address → P transfer.path transfer.request transfer.end a
    of_end P holds = search std_rules

    -- what its file has given or taken since
    abbrev HasMoved : Files F D → Type 0
    HasMoved files =
        FileSo (IsGiven programs programs.server.run) (IsTaken programs programs.server.run) files h.end
        (moved_at programs h.end.address programs.server.run)

    given_of : is_sender transfer.end.role.side ≡ true → (files : Files F D) → transfer.files ≡ files →
        HasMoved files → WasGiven programs transfer a
    given_of sends (Source source) is f =
        search (
          of_end (λ p r e b. StoreOpened programs.server.run p r e.role.mode f.2.opening) f.2.first,
          ap (λ (e : EndState). e.role.length) (sym h.state) ∙ f.2.long,
          of_end (λ p r e b. GaveSince sources f.2.opening.source e (moved_at programs b programs.server.run).bytes
              source) f.2.since,
        )
    given_of sends (Sink draft) is f =
        absurd (true≢false (sym sends ∙ (ap (λ (e : EndState). is_sender e.role.side) (sym h.state) ∙ f.0)))

    pub was_given : is_sender transfer.end.role.side ≡ true → WasGiven programs transfer a
    was_given sends = given_of sends transfer.files refl h.has.file

    taken_of : is_sender transfer.end.role.side ≡ false → (files : Files F D) → transfer.files ≡ files →
        HasMoved files → WasTaken programs transfer a
    taken_of receives files is f = search std_rules

    pub was_taken : is_sender transfer.end.role.side ≡ false → WasTaken programs transfer a
    was_taken receives = taken_of receives transfer.files refl h.has.file

  -- what the source of a client has given
  module _ (k : ℕ) (client : ClientOf programs) (found : slice_get programs.clients k ≡ Some client)
      (sends : is_sender client.first.role.side ≡ true) where
    abbrev its_kept : ClientKept programs 0 kept.views kept.messages client client.last client.files
        (moved_in client.runs)
    its_kept = client_kept kept k client found

    given_by : (files : Files G K) → client.files ≡ files →
        HasFile programs 0 client its_kept.end files (moved_in client.runs) → WasGivenBy programs client
    given_by files is has = search (rules, moved_in, true≢false, sends, is_sender, run_role)

    pub has_given : WasGivenBy programs client
    has_given = given_by client.files refl its_kept.has
