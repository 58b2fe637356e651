-- What the request port's decision implies for the request.
use Rattle.std.proofs.Common.{rules as std_rules}
use Rattle.tftp_promises.proofs.Common.{List, ℕ, ◌≡◌, rules, sym, Endpoint, [], ◌∙◌, ap, SourceMeaning, Some, subst}
use Rattle.tftp_promises.proofs.Common.{inl, StoreMeaning, inr, ◌∷◌, false, true, Bool, EndState, ◌⊎◌, Option, arith}
use Rattle.tftp_promises.proofs.Common.{length, if◌then◌else◌, Mode, Sink, Source, ServerState, WirePacket, ◌≤◌, ◌<◌}
use Rattle.tftp_promises.proofs.Common.{Ok, A_transfer, IsBlockSize, Came, WireRequest, Known, Nothing, ◌*◌, Left}
use Rattle.tftp_promises.proofs.Common.{requested, Read, Error_reply, has_error_opcode, Result, serving_read, Opening}
use Rattle.tftp_promises.proofs.Common.{RawOption, nat_lt, path_of_name, Write, size, block_length, DEFAULT_BLOCK}
use Rattle.tftp_promises.proofs.Common.{Refusal, if_acts, ◌^◌, MAX_BLOCK, StoreFault, ErrorReply, serving_write, answer}
use Rattle.tftp_promises.proofs.Common.{AreGranted, AsksToRead, ltb-true, GivesInTurn, Limits, FileChanged, first_moved}
use Rattle.tftp_promises.proofs.Common.{Gave_nothing, Gave_more, Ask}
use Rattle.tftp_file.specs.declared.path.PathFault.{PathFault}
use Rattle.tftp_server.specs.Port.{Ignores, Refuses, Reads, Writes, asks, by_kind, by_name, by_packet, by_repeat}
use Rattle.tftp_server.specs.Port.{Service, Sends, Refused, by_draft, by_file, by_length}
use Rattle.tftp_ends.specs.declared.error_reply.ErrorReply.TheVariants.{FileTooLarge}
use Rattle.tftp_ends.specs.Opening.{ServesRead}
use Rattle.tftp_store.specs.Store.{measured}
use Rattle.tftp_server.specs.Request.{AsksToWrite, Goes, RequestStep, Sent, Starts, Taken, opened_length}
use Rattle.tftp_rules.proofs.Granted.{answer_granted, answer_small}
use Rattle.tftp_promises.proofs.MovedSends.{piece_length}
use Rattle.tftp_negotiate.specs.declared.known.Kind.TheVariants as kinds

-- the packet is a request to write, or to read, for this path, in this mode and with these options, and it is not
-- repeated
pub record IsAsked (decoded : Option WirePacket) (repeated write : Bool) (path : List ℕ) (mode : Mode)
    (options : List RawOption) : Type 0 where
  pub request : WireRequest
  pub packet : decoded ≡ Some (requested write request)
  pub same_path : path_of_name request.name ≡ Ok path
  pub same_mode : request.mode ≡ mode
  pub same_options : request.options ≡ options
  pub new : repeated ≡ false

module _ (limits : Limits) (repeated : Bool) (bytes : List ℕ) where
  -- what is known of the request if the port decides so
  abbrev pub Implies : Option WirePacket → Ask → Type 0
  Implies decoded Ignores = (has_error_opcode bytes ≡ true) ⊎ (repeated ≡ true)
  Implies decoded (Refuses reply) = Unit {0}
  Implies decoded (Reads path mode options) = IsAsked decoded repeated false path mode options
  Implies decoded (Writes path mode agreed) =
      (options : List RawOption) × IsAsked decoded repeated true path mode options
      × (answer options kinds.Write mode 0 limits ≡ Ok agreed)

  module _ (cap count : ℕ) where
    named : (decoded : Option WirePacket) (next : List ℕ → Ask) (result : Result (List ℕ) PathFault) →
        ((path : List ℕ) → result ≡ Ok path → Implies decoded (next path)) →
        Implies decoded (by_name cap count next result)
    named decoded next result each = search rules

    unless_repeated : (decoded : Option WirePacket) (ask : Ask) → (repeated ≡ false → Implies decoded ask) →
        Implies decoded (by_repeat repeated ask)
    unless_repeated decoded ask implies = if_acts (Implies decoded) repeated Ignores ask inr implies

    asked_to_read : (r : WireRequest) (path : List ℕ) → path_of_name r.name ≡ Ok path → repeated ≡ false →
        Implies (Some (Read r)) (by_kind kinds.Read r.mode r.options limits path)
    asked_to_read r path found new = search rules

    implied : (decoded : Option WirePacket) → Implies decoded (by_packet cap count repeated limits decoded)
    implied (Some (Read r)) = unless_repeated _ _ (λ new. named _ _ _ (λ path found. asked_to_read r _ found new))
    implied (Some (Write r)) = search std_rules
    implied decoded = tt

    -- it is known of each decision
    pub asks_imply : (decoded : Option WirePacket) → Implies decoded (asks cap count repeated limits bytes decoded)
    asks_imply decoded = search (std_rules, if_acts, has_error_opcode, implied)

-- How the request port answers a datagram.

-- a piece that is sent as DATA 1 is the first block of a file of this length
abbrev pub IsFirst : List Known → ℕ → List ℕ → Type 0
IsFirst [] measured piece = length piece ≡ block_length measured DEFAULT_BLOCK 1
IsFirst (known ∷ agreed) measured piece = Unit {0}

module _ {S F D : Type 0} (meaning : StoreMeaning S D) (sources : SourceMeaning F) (old : ServerState S F D)
    (from : Endpoint) (bytes : List ℕ) where
  -- an ERROR is sent
  pub record IsRefused (came : Came S F D) : Type 0 where
    pub reply : ErrorReply
    pub store : S
    pub is : came ≡ Error_reply reply store

  -- the store opened this file when it was asked for the path
  abbrev pub IsOpenedBy : List ℕ → Mode → Came S F D → Opening F → Type 0
  IsOpenedBy path mode came opening =
      (options : List RawOption) × (asks : AsksToRead meaning sources old from bytes path mode options came)
      × (asks.file ≡ Ok opening)

  -- a transfer sends what the store opened under this path
  pub record OpensToSend (path : List ℕ) (mode : Mode) (options : List RawOption) (came : Came S F D) : Type 0 where
    pub agreed : List Known
    pub granted : AreGranted agreed
    pub measured : ℕ
    -- these options are answered so
    pub answers : answer options kinds.Read mode measured old.config.limits ≡ Ok agreed
    pub fits : measured < 65535 * size agreed
    pub piece : List ℕ
    pub first : IsFirst agreed measured piece
    pub rest : F
    -- how the store opened it, and what the source has given since
    pub opening : Opening F
    pub opened : IsOpenedBy path mode came opening
    pub long : measured ≡ opening.length
    pub gave : GivesInTurn sources opening.source
        (first_moved (serving_read agreed from mode measured old.config.retries piece)).bytes rest
    pub is : came ≡ A_transfer (record {
      end = serving_read agreed from mode measured old.config.retries piece;
      files = Source rest;
      path = path;
      request = bytes;
    }) old.store

  -- the store began this draft when it was asked for one of the path
  abbrev pub IsBegunBy : List ℕ → Mode → Came S F D → D → Type 0
  IsBegunBy path mode came draft =
      (agreed : List Known) × (asks : AsksToWrite meaning sources old from bytes path mode agreed came)
      × (asks.draft ≡ Ok draft)

  -- a transfer receives a file for this path
  pub record OpensToStore (path : List ℕ) (mode : Mode) (options : List RawOption) (came : Came S F D) : Type 0 where
    pub agreed : List Known
    pub granted : AreGranted agreed
    pub answers : answer options kinds.Write mode 0 old.config.limits ≡ Ok agreed
    pub store : S
    pub draft : D
    pub begun : IsBegunBy path mode came draft
    pub is : came ≡ A_transfer (record {
      end = serving_write agreed from mode old.config.retries;
      files = Sink draft;
      path = path;
      request = bytes;
    }) store

  -- the answer to a datagram
  pub data PortAnswers (decoded : Option WirePacket) (repeated : Bool) (came : Came S F D) : Type 0 where
    Silent : came ≡ Nothing → (has_error_opcode bytes ≡ true) ⊎ (repeated ≡ true) → PortAnswers decoded repeated came
    Says_error : IsRefused came → PortAnswers decoded repeated came
    Begins_to_send : (path : List ℕ) (mode : Mode) (options : List RawOption) →
        IsAsked decoded repeated false path mode options → OpensToSend path mode options came →
        PortAnswers decoded repeated came
    Begins_to_store : (path : List ℕ) (mode : Mode) (options : List RawOption) →
        IsAsked decoded repeated true path mode options → OpensToStore path mode options came →
        PortAnswers decoded repeated came

  refuses : (came : Came S F D) (reply : ErrorReply) → came ≡ Error_reply reply old.store → IsRefused came
  refuses came reply is = record { reply = reply; store = old.store; is = is }

  module _ (max : IsBlockSize old.config.limits.max_block) (came : Came S F D) where
    -- ---- a read
    abbrev Read_answers : List ℕ → Mode → List RawOption → Type 0
    Read_answers path mode options = IsRefused came ⊎ OpensToSend path mode options came

    abbrev Has_sent : Service → Opening F → Type 0
    Has_sent service opening = Sent meaning sources old from bytes service (Ok opening) came

    module _ (path : List ℕ) (mode : Mode) (options : List RawOption) (opening : Opening F)
        (opened : IsOpenedBy path mode came opening) where
      -- a length of so few blocks fits 64 bits
      word : (agreed : List Known) → size agreed ≤ MAX_BLOCK → opening.length < 65535 * size agreed →
          opening.length < 2 ^ 64
      word agreed small few = omega (arith, small, few)

      -- the piece of DATA 1
      the_piece : (agreed : List Known) (rest : F) (e : EndState) →
          ServesRead sources agreed from mode opening.length old.config.retries opening.source rest e →
          (piece : List ℕ) × IsFirst agreed opening.length piece
          × (e ≡ serving_read agreed from mode opening.length old.config.retries piece)
          × GivesInTurn sources opening.source
          (first_moved (serving_read agreed from mode opening.length old.config.retries piece)).bytes rest
      the_piece [] rest e h = (
        h.0,
        piece_length (sources.left opening.source) (sources.left rest)
            (block_length opening.length DEFAULT_BLOCK 1) h.0 h.1.fills,
        h.2,
        Gave_more Gave_nothing h.3,
      )
      the_piece (k ∷ agreed) rest e h = (
        [],
        tt,
        h.1,
        subst (λ (s : F). GivesInTurn sources opening.source [] s) (sym h.0) Gave_nothing,
      )

      -- the first datagram is sent, or the file has changed
      starts_so : (agreed : List Known) → answer options kinds.Read mode opening.length old.config.limits ≡ Ok agreed →
          AreGranted agreed → opening.length < 65535 * size agreed →
          Starts meaning sources old from bytes path mode opening.length agreed opening.source came →
          Read_answers path mode options
      starts_so agreed e granted few (inl serves) =
          let p = the_piece agreed serves.rest serves.end serves.serves in
          inr (search (serves.opens ∙ ap (λ (end : EndState). A_transfer (record {
            end = end;
            files = Source
                serves.rest;
            path = path;
            request = bytes;
          }) old.store) p.2))
      starts_so agreed e granted few (inr changed) = inl (refuses came FileChanged changed.2)

      numbered : (agreed : List Known) → answer options kinds.Read mode opening.length old.config.limits ≡ Ok agreed →
          (b : Bool) → nat_lt opening.length (65535 * size agreed) ≡ b →
          Has_sent (if b then Sends path mode opening.length agreed else Refused FileTooLarge) opening →
          Read_answers path mode options
      numbered agreed e true l h =
          search (std_rules, ltb-true, size, answer_small, starts_so, answer_granted, word)
      numbered agreed e false l h = inl (refuses came FileTooLarge h)

      answered : (a : Result (List Known) Refusal) →
          answer options kinds.Read mode opening.length old.config.limits ≡ a →
          Has_sent (by_length path mode opening.length a) opening → Read_answers path mode options
      answered a e h = search (rules, numbered, refuses)

    read_by : (path : List ℕ) (mode : Mode) (options : List RawOption) (file : Result (Opening F) StoreFault) →
        ((opening : Opening F) → file ≡ Ok opening → IsOpenedBy path mode came opening) →
        Sent meaning sources old from bytes (by_file old.config.limits path mode options (opened_length file)) file
        came → Read_answers path mode options
    read_by path mode options file opened h = search (rules, answered, refuses)

    -- a read is refused, or a transfer opens
    pub read_answered : (path : List ℕ) (mode : Mode) (options : List RawOption) →
        AsksToRead meaning sources old from bytes path mode options came → Read_answers path mode options
    read_answered path mode options h =
        read_by path mode options h.file (λ opening is. (options, h, is)) h.goes_on

    -- ---- a write
    abbrev Write_answers : List ℕ → Mode → List RawOption → Type 0
    Write_answers path mode options = IsRefused came ⊎ OpensToStore path mode options came

    module _ (path : List ℕ) (store : S) where
      write_by : (mode : Mode) (options : List RawOption) (agreed : List Known) (draft : Result D StoreFault) →
          answer options kinds.Write mode 0 old.config.limits ≡ Ok agreed → AreGranted agreed →
          ((begun : D) → draft ≡ Ok begun → IsBegunBy path mode came begun) →
          Taken meaning sources old from bytes (by_draft path mode agreed draft) draft store came →
          Write_answers path mode options
      write_by mode options agreed draft answers granted begun h = search rules

    -- a write is refused, or a transfer opens
    pub write_answered : (path : List ℕ) (mode : Mode) (options : List RawOption) (agreed : List Known) →
        answer options kinds.Write mode 0 old.config.limits ≡ Ok agreed → AreGranted agreed →
        AsksToWrite meaning sources old from bytes path mode agreed came → Write_answers path mode options
    write_answered path mode options agreed answers granted h =
        write_by path h.store mode options agreed h.draft answers granted (λ draft is. (agreed, h, is)) h.goes_on

    -- ---- what the port decided
    decided : (decoded : Option WirePacket) (repeated : Bool) (ask : Ask) →
        Implies old.config.limits repeated bytes decoded ask → Goes meaning sources old from bytes ask came →
        PortAnswers decoded repeated came
    decided decoded repeated Ignores implied h = Silent h implied
    decided decoded repeated (Refuses reply) implied h = Says_error (refuses came reply h)
    decided decoded repeated (Reads path mode options) implied h = elim (read_answered path mode options h) [
      | inl refused ↦ Says_error refused
      | inr opens ↦ Begins_to_send path mode options implied opens
    ]
    decided decoded repeated (Writes path mode agreed) implied h =
        elim (write_answered path mode implied.0 agreed implied.2 (answer_granted implied.0 kinds.Write mode 0 old.config.limits agreed
        (omega arith) max implied.2) h) [
          | inl refused ↦ Says_error refused
          | inr opens ↦ Begins_to_store path mode implied.0 implied.1 opens
        ]

  -- the answer of a step of the request port
  pub port_answers : IsBlockSize old.config.limits.max_block → (tid : ℕ) (result : Left S F D) (h : RequestStep meaning sources old from bytes tid result) →
      PortAnswers h.decoded h.repeated h.came
  port_answers max tid result h =
      decided max h.came h.decoded h.repeated (asks old.config.cap (length old.held) h.repeated old.config.limits
      bytes h.decoded) (asks_imply old.config.limits h.repeated bytes old.config.cap (length old.held) h.decoded) h.goes
