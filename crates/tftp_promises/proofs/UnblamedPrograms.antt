-- No end of the programs has blamed a peer that is no stranger where the traces arrive.
-- For the law no_program_is_blamed.
use Rattle.std.proofs.Common.{rules as std_rules}
use Rattle.tftp_promises.proofs.Common.{List, ℕ, ◌≡◌, rules, sym, Endpoint, refl, ◌∙◌, ap, SourceMeaning, Some, inl}
use Rattle.tftp_promises.proofs.Common.{StoreMeaning, inr, SinkMeaning, ◌++◌, Programs, EndState, arith, length}
use Rattle.tftp_promises.proofs.Common.{slice_get, TransferState, joined, ClientOf, client_at, Mode, moved_in}
use Rattle.tftp_promises.proofs.Common.{cases_Bool, ◌≤◌, all_of, Outcome, moved_at, Role, opened_at, HasOpened}
use Rattle.tftp_promises.proofs.Common.{ArePortsFresh, IsUnblamed, ProgramEnd, IsEnd, wire_text, take, length-append}
use Rattle.tftp_promises.proofs.Common.{MayCloseAs, NoneIsBlamed, replicate}
use Rattle.std.proofs.Math.Seq.{take-append-add}
use Rattle.std.proofs.lemmas.List.{take-replicate}
use Rattle.tftp_rules.proofs.HostBytes.{padded_text}
use Rattle.tftp_rules.proofs.UnblamedEnds.{BlamesBy}
use Rattle.tftp_promises.specs.Blamed.{BeginsFile, ProgramsAreUnblamed}
use Rattle.tftp_ends.specs.declared.outcome.Outcome.TheVariants as outcomes
use Rattle.tftp_promises.proofs.ClientTraces.{run_role}
use Rattle.tftp_promises.proofs.Invariant.{IsKept, SendsText, client_text, length_of, client_kept, stored_opened}
use Rattle.tftp_promises.proofs.JointRuns.{traces_joint}
use Rattle.tftp_promises.proofs.KeptFresh.{fresh_at_last, kept_at_last}
use Rattle.tftp_promises.proofs.KeptServes.{server_steps_keep}
use Rattle.tftp_promises.proofs.NewPlaces.{client_apart}
use Rattle.tftp_promises.proofs.Places.{strangers_elsewhere}
use Rattle.tftp_promises.proofs.Texts.{pad_to}

-- ---- the text of a file, where what moved begins it
abbrev zeros : ℕ → List ℕ
zeros k = replicate k 0

take_padded : (xs rest : List ℕ) (n : ℕ) → length rest ≤ n →
    take (length (xs ++ rest)) (xs ++ zeros n) ≡ xs ++ zeros (length rest)
take_padded xs rest n l = search (std_rules, length-append, take-append-add, length, take-replicate)

begun_text : (mode : Mode) (long : ℕ) (bytes : List ℕ) → BeginsFile mode long bytes →
    (file : List ℕ) × (wire_text mode file ≡ pad_to 0 long bytes)
begun_text mode long bytes h =
    let rest = h.begins.0 in
    let text : wire_text mode h.file ≡ bytes ++ rest = sym h.begins.1 in
    let measured : length (bytes ++ rest) ≡ long = ap length h.begins.1 ∙ h.measured in
    let fits : length rest ≤ long = let l = length-append bytes rest in omega (arith, l, measured) in
    let padded = padded_text mode h.file bytes rest text in search (std_rules, take_padded, take)

module _ {S F D G K : Type 0} {stores : StoreMeaning S D} {sources : SourceMeaning F} {inputs : SourceMeaning G}
    {outputs : SinkMeaning K} (programs : Programs stores sources inputs outputs) (fresh : ArePortsFresh programs)
    (kept : IsKept 0 (all_of programs)) where
  abbrev Client : Type 0
  Client = ClientOf programs

  -- an end has blamed nobody
  unblamed : (x : ProgramEnd) → IsEnd programs x →
      IsUnblamed (joined programs) (SendsText programs 0) kept.messages x.state
  unblamed x (inl of) =
      let h = client_kept kept of.0 of.1 of.2 in rw (of.3, ← h.state) h.viewed.unblamed
  unblamed x (inr of) =
      let h = kept.transfers of.0 of.1 of.2 of.3 in rw (of.4, ← h.state) h.viewed.unblamed

  -- ---- what an end gave is the text of a file, if it begins that of one
  client_sends : (mode : Mode) (k : ℕ) (client : Client) → slice_get programs.clients k ≡ Some client →
      BeginsFile mode client.last.end.role.length (moved_in client.runs).bytes →
      SendsText programs 0 (client_at client) mode
  client_sends mode k client found begins =
      let bytes = (moved_in client.runs).bytes in
      let text = begun_text mode client.last.end.role.length bytes begins in
      let own : wire_text mode text.0 ≡ client_text programs 0 client =
      text.1 ∙ ap (λ (r : Role). pad_to 0 r.length bytes) (run_role client.runs) in
      record {
        file = text.0;
        client = search std_rules;
        transfer = λ none opening opened. absurd (none k client found refl);
      }

  transfer_sends : (mode : Mode) (port : ℕ) (transfer : TransferState F D) (a : Endpoint) →
      HasOpened programs port transfer a →
      BeginsFile mode transfer.end.role.length (moved_at programs a programs.server.run).bytes →
      SendsText programs 0 a mode
  transfer_sends mode port transfer a there begins =
      let bytes = (moved_at programs a programs.server.run).bytes in
      let text = begun_text mode transfer.end.role.length bytes begins in
      let h = kept.transfers port transfer a there in
      let o = stored_opened 0 (all_of programs) h.end transfer.files h.has in
      let long : length_of (opened_at programs a programs.server.run) ≡ transfer.end.role.length =
      ap (λ (b : Endpoint). length_of (opened_at programs b programs.server.run)) (sym h.address)
      ∙ (ap length_of o.opened
      ∙ (ap (λ (r : Role). r.length) o.role ∙ ap (λ (e : EndState). e.role.length) h.state)) in
      let known = kept.server.opened port transfer a there in
      record {
        file = text.0;
        client = λ j other at same.
            absurd (client_apart programs (all_of programs) (fresh_at_last programs fresh) a known j other at (sym same));
        transfer = λ none opening opened. text.1 ∙ ap (λ (n : ℕ). pad_to 0 n bytes) (sym long);
      }

  sends_text : (mode : Mode) (y : ProgramEnd) → IsEnd programs y →
      BeginsFile mode y.state.role.length y.moved.bytes → SendsText programs 0 y.address mode
  sends_text mode y (inl of) begins = rw of.3 (client_sends mode of.0 of.1 of.2 (rw of.3 at begins))
  sends_text mode y (inr of) begins = rw of.4 (transfer_sends _ _ _ _ of.3 (rw of.4 at begins))

  -- so each end closes as it may
  closes_as : (x : ProgramEnd) (p : Endpoint) (outcome : Outcome) →
      (BlamesBy (SendsText programs 0) x.state.role p outcome → ⊥) → MayCloseAs programs x p outcome
  closes_as x p outcome h = search (rules, cases_Bool, sends_text)

  pub none_blamed : NoneIsBlamed programs
  none_blamed x p outcome is_end peer ours is =
      closes_as x p outcome
      ((unblamed x is_end).blameless outcome is p peer (λ far. ours ((strangers_elsewhere programs p).0 far)))

module _ {S F D G K : Type 0} (stores : StoreMeaning S D) (sources : SourceMeaning F) (inputs : SourceMeaning G)
    (outputs : SinkMeaning K) where
  pub programs_unblamed : ProgramsAreUnblamed stores sources inputs outputs
  programs_unblamed programs order joined =
      search (rules, none_blamed, kept_at_last, traces_joint, server_steps_keep)
