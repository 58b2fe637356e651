-- What the server's request port did is what the world has of it, for a store in memory. For four other files.
use Rattle.tftp_player.proofs.Common.{◌≡◌, ◌≢◌, ℕ, ◌*◌, ◌<◌, Bool, true, false, List, [], ◌∷◌, length, drop, min}
use Rattle.tftp_player.proofs.Common.{Option, Some, None, Result, Ok, Err, refl, ap, ◌∙◌, arith, inl, inr, rules}
use Rattle.tftp_player.proofs.Common.{is_some, if◌then◌else◌, nat_lt, ltb-true, same_Some, DEFAULT_BLOCK, Mode}
use Rattle.tftp_player.proofs.Common.{RawOption, Packet, one_meaning, size, answer, IsBlockSize, Known, Refusal}
use Rattle.tftp_player.proofs.Common.{memory_source, block, wire_text, StoreFault, Source, Sink, ErrorReply, EndState}
use Rattle.tftp_player.proofs.Common.{serving_read, Decodes, memory_meaning, Stored, Drafted, measured, Endpoint}
use Rattle.tftp_player.proofs.Common.{OpenEnd, agreed_size, WorldState, StoredFile, file_at, in_the_way, sending_end}
use Rattle.tftp_player.proofs.Common.{receiving_end, Ask, Service, Silent, Refused, Sends, Takes, by_file}
use Rattle.tftp_player.proofs.Common.{open_transfers, opened_of, served, service, PlayedServer, ServerEnd}
use Rattle.tftp_player.proofs.Common.{spelled_has_no_fault, FileTooLarge, block_length, at, is_taken, accept_reply}
use Rattle.tftp_player.proofs.Common.{by_draft, by_length, begun_of, ServerTransfer, AnswersAs, released_end, Answer}
use Rattle.std.proofs.Common.{IfErr}
use Rattle.std.proofs.lemmas.List.{take_min, drop_min}
use Rattle.tftp_negotiate.specs.declared.known.Kind.TheVariants as kinds
use Rattle.tftp_file.specs.Source.{Fills, Moved}
use Rattle.tftp_file.specs.declared.fault.FileFault.{FileFault}
use Rattle.tftp_file.specs.declared.fault.FileFault.TheVariants as file_faults
use Rattle.tftp_file.specs.declared.fault.StoreFault.TheVariants as store_faults
use Rattle.tftp_ends.specs.Opening.{ServesRead}
use Rattle.tftp_ends.specs.Step.{result_count_is}
use Rattle.tftp_server.specs.Request.{Came, Nothing, Error_reply, A_transfer, Goes, Left, Sent, Taken, left_by}
use Rattle.tftp_server.specs.Request.{opened_length}
use Rattle.tftp_store.specs.Memory.{MayRefuseBegin, MayRefuseOpen}
use Rattle.tftp_store.specs.Store.{Opens, Begins, new_draft}
use Rattle.tftp_store.specs.declared.store.Opening.{Opening}
use Rattle.tftp_server.specs.Port.{asks}
use Rattle.tftp_player.specs.Answer.{IsServerOf}
use Rattle.tftp_player.proofs.WorldKeeps.{answered_values}
use Rattle.tftp_player.proofs.Measured.{measured_whole}

-- bytes say one thing
pub says_one : (bytes : List ℕ) (a b : Option Packet) → Decodes bytes a → Decodes bytes b → a ≡ b
says_one bytes a b s t = search (rules, one_meaning, spelled_has_no_fault)

-- the first block is asked for of a text that was measured to its end
first_want : (m n : ℕ) → m ≡ n → block_length m DEFAULT_BLOCK 1 ≡ min DEFAULT_BLOCK n
first_want m n e = omega arith

-- and it was read
first_moved : (text rest piece : List ℕ) (m : ℕ) → m ≡ length text →
    Moved text (Some rest) (block_length m DEFAULT_BLOCK 1) [] piece (block_length m DEFAULT_BLOCK 1) →
    (piece ≡ block text DEFAULT_BLOCK 1) × (rest ≡ drop DEFAULT_BLOCK text)
first_moved text rest piece m e f = search (rules, first_want, take_min, same_Some, drop_min)

-- a source in memory with the whole text gives it
cannot_be_short : (text : List ℕ) (m : ℕ) (after : Option (List ℕ)) (piece : List ℕ) → m ≡ length text →
    (answer : Result ℕ FileFault) →
    Fills (Some text) after (block_length m DEFAULT_BLOCK 1) [] piece answer →
    result_count_is (block_length m DEFAULT_BLOCK 1) answer ≡ false →
    answer ≢ Err file_faults.Memory → (answer ≡ Err file_faults.Read → ⊥) → ⊥
cannot_be_short text m after piece e answer fills short memory read = search rules

-- a read that is served opens the end that the world has
pub read_end :
    (w : WorldState) (peer : Endpoint) (request : List ℕ) (mode : Mode) (path file : List ℕ) (agreed : List Known)
    (m retries : ℕ) (rest : List ℕ) (e : EndState) →
    m ≡ length (wire_text mode file) → retries ≡ w.retries →
    ServesRead memory_source agreed peer mode m retries (wire_text mode file) rest e →
    (e ≡ (sending_end w peer request mode path file agreed).state)
    × (rest ≡ (sending_end w peer request mode path file agreed).left)
read_end w peer request mode path file [] m retries rest e whole r s =
    let text = wire_text mode file in
    let b = first_moved text rest s.0 m whole s.1.fills in (
      s.2
          ∙ (ap (λ (n : ℕ). serving_read [] peer mode n retries s.0) whole
          ∙ (ap (λ (n : ℕ). serving_read [] peer mode (length text) n s.0) r
          ∙ ap (λ (p : List ℕ). serving_read [] peer mode (length text) w.retries p) b.0)),
      b.1,
    )
read_end w peer request mode path file (known ∷ others) m retries rest e whole r s =
    let text = wire_text mode file in (
      s.1
          ∙ (ap (λ (n : ℕ). serving_read (known ∷ others) peer mode n retries []) whole
          ∙ ap (λ (n : ℕ). serving_read (known ∷ others) peer mode (length text) n []) r),
      s.0,
    )

-- the transfer that a new sender or receiver of the world is at its server
abbrev pub held_sender : OpenEnd → ServerTransfer
held_sender x = record { end = x.state; files = Source x.left; path = x.path; request = x.request }

-- the transfer of a receiver
abbrev pub held_receiver : OpenEnd → ServerTransfer
held_receiver x = record { end = x.state; files = Sink new_draft; path = x.path; request = x.request }

-- what a request is answered from
pub record PortAsking : Type 0 where
  pub old : PlayedServer
  pub from : Endpoint
  pub bytes : List ℕ
  pub tid : ℕ

-- the state after the port's call, and its result
abbrev pub PortLeft : Type 0
PortLeft = Left Stored (List ℕ) Drafted

-- the result of a request, for a store in memory
abbrev pub PortCame : Type 0
PortCame = Came Stored (List ℕ) Drafted

abbrev pub port_left : PortCame → PortAsking → PortLeft
port_left came asking = left_by came asking.old asking.from asking.tid

-- the port did what the world's service is
abbrev pub PortDid : WorldState → Service → PortAsking → PortLeft → Type 0
PortDid w Silent asking result = result ≡ port_left Nothing asking
PortDid w (Refused reply) asking result = result ≡ port_left (Error_reply reply asking.old.store) asking
PortDid w (Sends path mode count agreed) asking result =
    (file : List ℕ) × (file_at w.files path ≡ Some file)
    × (result
    ≡ port_left
    (A_transfer (held_sender (sending_end w asking.from asking.bytes mode path file agreed)) asking.old.store) asking)
PortDid w (Takes path mode agreed) asking result =
    result
    ≡ port_left
    (A_transfer (held_receiver (receiving_end w asking.from asking.bytes mode path agreed)) asking.old.store) asking

module _ (w : WorldState) (asking : PortAsking) (came : PortCame) (s : IsServerOf w asking.old)
    (max : IsBlockSize w.limits.max_block) where
  abbrev Did : Service → Type 0
  Did what = PortDid w what asking (port_left came asking)

  abbrev Has_sent : Service → Opening (List ℕ) → Type 0
  Has_sent what file = Sent memory_meaning memory_source asking.old asking.from asking.bytes what (Ok file) came

  refused : (reply : ErrorReply) → came ≡ Error_reply reply asking.old.store → Did (Refused reply)
  refused reply h = ap (λ (c : PortCame). port_left c asking) h

  -- the answer to the options of a read
  by_answer : (path file : List ℕ) (mode : Mode) (options : List RawOption) (a : Result (List Known) Refusal) →
      file_at w.files path ≡ Some file → answer options kinds.Read mode (measured mode file) w.limits ≡ a →
      Has_sent (by_length path mode (measured mode file) a)
      (record { source = wire_text mode file; length = measured mode file }) →
      Did (by_length path mode (measured mode file) a)
  by_answer path file mode options (Err refusal) there e h = refused (accept_reply refusal) h
  by_answer path file mode options (Ok agreed) there e h = by (nat_lt m (65535 * size agreed)) refl h
    where
      m : ℕ
      m = measured mode file

      opened : Opening (List ℕ)
      opened = record { source = wire_text mode file; length = measured mode file }

      by : (b : Bool) → nat_lt m (65535 * size agreed) ≡ b →
          Has_sent (if b then Sends path mode m agreed else Refused FileTooLarge) opened →
          Did (if b then Sends path mode m agreed else Refused FileTooLarge)
      by false l refusal = refused FileTooLarge refusal
      by true l starts =
          let few : m < 65535 * size agreed = ltb-true m (65535 * size agreed) l in
          let small = (agreed_size agreed (answered_values kinds.Read mode m w.limits options agreed max e)).1 in
          let whole = measured_whole mode file (size agreed) small few in
          elim starts [
            | inl serves ↦
                let b =
                read_end w asking.from asking.bytes mode path file agreed m asking.old.config.retries serves.rest
                serves.end whole s.retries serves.serves in
                let x = sending_end w asking.from asking.bytes mode path file agreed in (
                  file,
                  there,
                  ap (λ (c : PortCame). port_left c asking) (serves.opens
                      ∙ (ap
                      (λ (e : EndState).
                      A_transfer (record { end = e; files = Source serves.rest; path = path; request = asking.bytes })
                      asking.old.store) b.0
                      ∙ ap
                      (λ (r : List ℕ).
                      A_transfer (record { end = x.state; files = Source r; path = path; request = asking.bytes })
                      asking.old.store) b.1)),
                )
            | inr changed ↦ let c = changed.1 in
                absurd
                (cannot_be_short (wire_text mode file) m c.after c.piece whole c.answer c.reads.fills c.short
                c.reads.memory c.reads.read)
          ]

  -- the file was opened, or does not exist
  by_store :
      (path : List ℕ) (mode : Mode) (options : List RawOption) (file : Result (Opening (List ℕ)) StoreFault)
      (there : Option (List ℕ)) → file_at w.files path ≡ there →
      Opens memory_source (Some asking.old.store) path mode file → IfErr file (MayRefuseOpen asking.old.store path) →
      file ≢ Err store_faults.Memory →
      Sent memory_meaning memory_source asking.old asking.from asking.bytes
      (by_file asking.old.config.limits path mode options (opened_length file)) file came →
      Did (by_file w.limits path mode options (opened_of mode there))
  by_store path mode options h3 h4 e opens may memory h = search (rules, same_Some, by_answer, refused)

  -- a draft was begun, or a file is in its way
  by_begun :
      (path : List ℕ) (mode : Mode) (agreed : List Known) (store : Stored) (draft : Result Drafted StoreFault)
      (there : Option (List ℕ)) → is_taken asking.old.config.overwrite path asking.old.store.files ≡ is_some there →
      Begins (λ (d : Drafted). Some d) (Some asking.old.store) (Some store) path asking.old.config.overwrite draft →
      IfErr draft (MayRefuseBegin asking.old.store path asking.old.config.overwrite) →
      Taken memory_meaning memory_source asking.old asking.from asking.bytes (by_draft path mode agreed draft) draft
      store came → Did (by_draft path mode agreed (begun_of there))
  by_begun path mode agreed store h4 h5 taken begins may h = search rules

  is_in_the_way : (path : List ℕ) →
      is_taken asking.old.config.overwrite path asking.old.store.files
      ≡ is_some (in_the_way w.overwrite (file_at w.files path))
  is_in_the_way path = search rules

  -- the port's request of its store has the result that it has in the world
  pub port_did : (ask : Ask) → Goes memory_meaning memory_source asking.old asking.from asking.bytes ask came →
      Did (served w ask)
  port_did ask h = search (rules, refused, by_store, by_begun, is_in_the_way)

-- what the port decided by these tests, and carried out, is what the world's server does
pub request_did :
    (w : WorldState) (asking : PortAsking) (came : PortCame) (s : IsServerOf w asking.old)
    (max : IsBlockSize w.limits.max_block) (count : ℕ) (repeated : Bool) (ask : Ask) (said decoded : Option Packet) →
    count ≡ open_transfers w.ends → Decodes asking.bytes said → Decodes asking.bytes decoded →
    ask ≡ asks asking.old.config.cap count repeated asking.old.config.limits asking.bytes said →
    Goes memory_meaning memory_source asking.old asking.from asking.bytes ask came →
    PortDid w (service w repeated asking.bytes decoded) asking (port_left came asking)
request_did w asking came s max count repeated ask said decoded counts says spells is goes =
    search (rules, says_one, port_did)

-- ---- what is released of it
-- the end of the transfer that was released, if one was
abbrev pub released : Option ServerTransfer → List StoredFile → Option ServerEnd
released None files = None
released (Some transfer) files = Some (released_end transfer files)

module _ (w : WorldState) (asking : PortAsking) (result : PortLeft) (empty : asking.old.held ≡ []) where
  abbrev own : ℕ
  own = asking.tid

  module _ (answer : Answer) (to : answer.to ≡ result.opened.to) (bytes : answer.bytes.items ≡ result.sent)
      (opened : answer.opened ≡ released (at own result.new.held) w.files) where
    -- and the answer is that of the world's server
    pub port_answers : (what : Service) → PortDid w what asking result → AnswersAs what w asking.from asking.bytes answer
    port_answers what h = search rules
