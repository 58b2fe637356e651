-- How the end of a transfer opens.
-- For Bounded, Leaving, Opened and Reflecting.
use Rattle.std.proofs.Common.{rules}
use Rattle.tftp_loop.proofs.Common.{arith, ◌≡◌, ◌≤◌, ℕ, Bool, true, false, List, [], ◌∷◌, refl, sym, subst, inl, inr}
use Rattle.tftp_loop.proofs.Common.{Result, Ok, Err, if◌then◌else◌, nat_lt, ⊤, Mode, RawOption, Known, SourceMeaning}
use Rattle.tftp_loop.proofs.Common.{StoreFault, Source, Sink, EndState, ServesRead, serving_write, block_length}
use Rattle.tftp_loop.proofs.Common.{Endpoint, ErrorReply, StoreMeaning, Opening, Ask, Reads, Refused, Sends, Came, Goes}
use Rattle.tftp_loop.proofs.Common.{Nothing, Error_reply, A_transfer, Sent, Taken, TransferState, ServerState, An_ack}
use Rattle.tftp_loop.proofs.Common.{A_block, is_some, outcome_of}
use Rattle.std.specs.Prelude.{length}
use Rattle.tftp_negotiate.specs.Agreed.{size}
use Rattle.tftp_negotiate.specs.Answer.{answer}
use Rattle.tftp_negotiate.specs.declared.known.Kind.TheVariants as kinds
use Rattle.tftp_negotiate.specs.declared.limits.TheConstants.{DEFAULT_BLOCK}
use Rattle.tftp_negotiate.specs.declared.refusal.Refusal.{Refusal}
use Rattle.tftp_ends.specs.Opening.{serving_read}
use Rattle.tftp_ends.specs.declared.error_reply.ErrorReply.TheVariants.{FileChanged, FileTooLarge}
use Rattle.tftp_store.specs.Store.{OpensAt}
use Rattle.tftp_server.specs.Port.{by_draft, by_file, by_length}
use Rattle.tftp_server.specs.Request.{Starts, opened_length}
use Rattle.tftp_loop.specs.Leaving.{An_oack}
use Rattle.tftp_loop.proofs.AnsweringEnds.{IsAt}
use Rattle.tftp_loop.proofs.EndSteps.{at_most}
use Rattle.tftp_loop.proofs.PortEnds.{HasLimit}

-- whatever may be in its datagrams
abbrev pub Any : List ℕ → Type 0
Any piece = ⊤

-- and however large its blocks are
abbrev pub AnySize : ℕ → Type 0
AnySize size = ⊤

-- an open end that has all its retries is with the endpoint that asked, to which its first datagram goes
pub record BeginsAt (Fits : ℕ → Type 0) (IsGiven : List ℕ → Type 0) (retries : ℕ) (peer : Endpoint) (e : EndState)
    : Type 0 where
  pub limit : HasLimit retries e
  pub at : IsAt Fits IsGiven peer e.position
  pub still : is_some (outcome_of e.position.phase) ≡ false

module _ (Fits : ℕ → Type 0) (IsGiven : List ℕ → Type 0) (retries : ℕ) (peer : Endpoint) where
  read_begins : (agreed : List Known) (mode : Mode) (length : ℕ) (piece : List ℕ) → Fits (size agreed)
      → (agreed ≡ [] → IsGiven piece)
      → BeginsAt Fits IsGiven retries peer (serving_read agreed peer mode length retries piece)
  read_begins [] mode length piece fits given = record {
    limit = record { role = refl; left = omega arith };
    at = record { to = refl; with_peer = (refl, fits); said = A_block 1 piece refl (given refl) };
    still = refl;
  }
  read_begins (known ∷ others) mode length piece fits given = record {
    limit = record { role = refl; left = omega arith };
    at = record { to = refl; with_peer = (refl, fits); said = An_oack (known ∷ others) refl };
    still = refl;
  }

  -- the end of a write begins so
  pub write_begins : (agreed : List Known) (mode : Mode)
      → BeginsAt Fits IsGiven retries peer (serving_write agreed peer mode retries)
  write_begins [] mode = record {
    limit = record { role = refl; left = omega arith };
    at = record { to = refl; with_peer = refl; said = An_ack 0 refl };
    still = refl;
  }
  write_begins (known ∷ others) mode = record {
    limit = record { role = refl; left = omega arith };
    at = record { to = refl; with_peer = refl; said = An_oack (known ∷ others) refl };
    still = refl;
  }

  -- the end of a read begins so
  pub serves_begins : {F : Type 0} (sources : SourceMeaning F) (agreed : List Known) (mode : Mode) (count : ℕ)
      (source rest : F) (e : EndState) → Fits (size agreed)
      → ((piece : List ℕ) → sources.gives source piece rest → length piece ≤ size agreed → IsGiven piece)
      → ServesRead sources agreed peer mode count retries source rest e → BeginsAt Fits IsGiven retries peer e
  serves_begins sources [] mode count source rest e fits given serves =
      let want = block_length count DEFAULT_BLOCK 1 in
      let long = at_most (sources.left source) (sources.left rest) want serves.0 (Ok want) serves.1.fills in
      rw (serves.2) (read_begins [] mode count serves.0 fits (λ none. given serves.0 serves.3 (omega (arith, long))))
  serves_begins sources (known ∷ others) mode count source rest e fits given serves =
      rw (serves.1) (read_begins (known ∷ others) mode count [] fits (λ none. absurd (cc)))

-- a request opened this transfer: a read of a file that the store opened for it, or a write
pub data OpensFor {S F D : Type 0} (meaning : StoreMeaning S D) (sources : SourceMeaning F) (old : ServerState S F D)
    (from : Endpoint) (bytes : List ℕ) (ask : Ask) (transfer : TransferState F D) : Type 0 where
  To_read : (path : List ℕ) (mode : Mode) (options : List RawOption) (agreed : List Known) (file : Opening F) (rest : F)
      → ask ≡ Reads path mode options → sources.opens (meaning.root old.store) path mode file.length file.source
      → answer options kinds.Read mode file.length old.config.limits ≡ Ok agreed
      → ServesRead sources agreed from mode file.length old.config.retries file.source rest transfer.end
      → transfer.files ≡ Source rest → OpensFor meaning sources old from bytes ask transfer
  To_write : (agreed : List Known) (mode : Mode) (draft : D)
      → transfer.end ≡ serving_write agreed from mode old.config.retries → transfer.files ≡ Sink draft
      → OpensFor meaning sources old from bytes ask transfer

module _ {S F D : Type 0} (meaning : StoreMeaning S D) (sources : SourceMeaning F) (old : ServerState S F D)
    (from : Endpoint) (bytes : List ℕ) where
  -- the transfer that came, if one did
  abbrev pub OpensIn : Ask → Came S F D → Type 0
  OpensIn ask Nothing = ⊤
  OpensIn ask (Error_reply reply store) = ⊤
  OpensIn ask (A_transfer transfer store) = OpensFor meaning sources old from bytes ask transfer

  -- its end begins so
  pub opens_begins : {ask : Ask} {transfer : TransferState F D} → OpensFor meaning sources old from bytes ask transfer
      → BeginsAt AnySize Any old.config.retries from transfer.end
  opens_begins {transfer = transfer} (To_read path mode options agreed file rest is opened same serves files) =
      serves_begins AnySize Any old.config.retries from sources agreed mode file.length file.source rest transfer.end
      tt (λ piece gave long. tt) serves
  opens_begins (To_write agreed mode draft end files) =
      rw end (write_begins AnySize Any old.config.retries from agreed mode)

  came_as : (ask : Ask) (came other : Came S F D) → came ≡ other → OpensIn ask other → OpensIn ask came
  came_as ask came other is h = subst (OpensIn ask) (sym is) h

  module _ (ask : Ask) (path : List ℕ) (mode : Mode) (options : List RawOption) (is : ask ≡ Reads path mode options)
      (came : Came S F D) where
    refused : (reply : ErrorReply) (store : S) → came ≡ Error_reply reply store → OpensIn ask came
    refused reply store h = came_as ask came (Error_reply reply store) h tt

    module _ (file : Opening F) (opened : sources.opens (meaning.root old.store) path mode file.length file.source) where
      module _ (agreed : List Known) (same : answer options kinds.Read mode file.length old.config.limits ≡ Ok agreed)
        where
          starts : Starts meaning sources old from bytes path mode file.length agreed file.source came → OpensIn ask came
          starts (inl s) =
              came_as ask came _ s.opens (To_read path mode options agreed file s.rest is opened same s.serves refl)
          starts (inr x) = refused FileChanged old.store x.2

          fits : (b : Bool) → Sent meaning sources old from bytes
              (if b then Sends path mode file.length agreed else Refused FileTooLarge) (Ok file) came → OpensIn ask came
          fits true h = starts h
          fits false h = refused FileTooLarge old.store h

      answered : (result : Result (List Known) Refusal)
          → answer options kinds.Read mode file.length old.config.limits ≡ result
          → Sent meaning sources old from bytes (by_length path mode file.length result) (Ok file) came
          → OpensIn ask came
      answered result same h = search (rules, refused, fits, nat_lt)

    found : (file : Result (Opening F) StoreFault) → OpensAt sources (meaning.root old.store) path mode file
        → Sent meaning sources old from bytes (by_file old.config.limits path mode options (opened_length file)) file came
        → OpensIn ask came
    found file opened h = search (rules, refused, answered)

  begun : (ask : Ask) (path : List ℕ) (mode : Mode) (agreed : List Known) (draft : Result D StoreFault) (store : S)
      (came : Came S F D) → Taken meaning sources old from bytes (by_draft path mode agreed draft) draft store came
      → OpensIn ask came
  begun ask path mode agreed (Err fault) store came h = came_as _ _ _ h tt
  begun ask path mode agreed (Ok draft) store came h = came_as ask came _ h (To_write agreed mode draft refl refl)

  -- so opens each transfer that opens
  pub opens_for : (ask : Ask) (came : Came S F D) → Goes meaning sources old from bytes ask came → OpensIn ask came
  opens_for ask came goes = search (rules, came_as, found, begun)
