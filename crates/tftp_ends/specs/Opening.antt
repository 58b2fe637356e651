-- How each kind of end opens (RFC 1350, section 4; RFC 2347, "Negotiation Protocol"): its state,
-- when it is allowed, and what it sends.
use Rattle.std.specs.Prelude.{ℕ, ◌≡◌, ◌*◌, ◌<◌, ◌≤◌, ◌++◌, false, List, [], ◌∷◌, Option, Some, None}
use Rattle.std.specs.Prelude.{Result, Ok, IsErrOf}
use Rattle.tftp_wire.specs.Spelling.{IsValid, canonical}
use Rattle.tftp_wire.specs.declared.mode.Mode.{Mode}
use Rattle.tftp_wire.specs.declared.packet.Packet.TheVariants.{Read, Write, Oack}
use Rattle.tftp_wire.specs.declared.packet.Request.{Request}
use Rattle.tftp_negotiate.specs.Agreed.{size, agreed_options}
use Rattle.tftp_negotiate.specs.Asked.{IsFor, asked_options}
use Rattle.tftp_negotiate.specs.declared.asked.Asked.{Asked}
use Rattle.tftp_negotiate.specs.declared.known.Kind.TheVariants as kinds
use Rattle.tftp_negotiate.specs.declared.known.Known.{Known}
use Rattle.tftp_negotiate.specs.declared.limits.TheConstants.{DEFAULT_BLOCK}
use Rattle.tftp_file.specs.Source.{SourceMeaning}
use Rattle.tftp_file.specs.declared.fault.FileFault.{FileFault}
use Rattle.tftp_file.specs.declared.files.Files.{Files}
use Rattle.tftp_file.specs.declared.files.Files.TheVariants.{Source}
use Rattle.tftp_ends.specs.declared.endpoint.Endpoint.{Endpoint}
use Rattle.tftp_ends.specs.declared.fault.OpenFault.{OpenFault}
use Rattle.tftp_ends.specs.declared.fault.OpenFault.TheVariants as open_faults
use Rattle.tftp_ends.specs.declared.phase.Phase.{Phase}
use Rattle.tftp_ends.specs.declared.phase.Phase.TheVariants.{Waiting, Sending, Receiving}
use Rattle.tftp_ends.specs.declared.record.Step.{Step}
use Rattle.tftp_ends.specs.declared.role.Role.{Role}
use Rattle.tftp_ends.specs.declared.side.Side.{Side}
use Rattle.tftp_ends.specs.declared.side.Side.TheVariants.{ClientRead, ClientWrite, ServerRead}
use Rattle.tftp_ends.specs.declared.side.Side.TheVariants.{ServerWrite}
use Rattle.tftp_ends.specs.End.{EndState}
use Rattle.tftp_ends.specs.Step.{AsksFor, block_length, ack_bytes, data_bytes, result_count_is}
use Rattle.tftp_ends.specs.Waiting.{default_terms, agreed_terms}

-- ---- the states, and what is sent
-- an end at its opening: it has all its retries, and has sent these bytes
abbrev pub opened : Role → Phase → Endpoint → List ℕ → EndState
opened role phase to sent =
    record {
      role = role;
      position =
          record {
            retries_left = role.retries;
            last_sent = sent;
            last_sent_to = to;
            held_back = [];
            phase = phase;
          };
    }

-- the first datagram of an end at its opening was appended
abbrev pub HasSent : EndState → List ℕ → List ℕ → Type 0
HasSent e old new = new ≡ old ++ e.position.last_sent

-- a role
abbrev pub role_of : Side → Mode → ℕ → ℕ → Role
role_of side mode length retries =
    record { side = side; mode = mode; length = length; retries = retries }

-- the request of a client
abbrev pub request_of : List ℕ → Mode → Asked → Request
request_of name mode asked = record { name = name; mode = mode; options = asked_options asked mode }

-- a client that has sent a read request
abbrev pub getting : Endpoint → List ℕ → Mode → Asked → ℕ → ℕ → EndState
getting to name mode asked limit retries =
    opened (role_of ClientRead mode 0 retries) (Waiting asked limit) to
    (canonical (Read (request_of name mode asked)))

-- a client that has sent a write request for a file of this length
abbrev pub putting : Endpoint → List ℕ → Mode → Asked → ℕ → ℕ → ℕ → EndState
putting to name mode asked length limit retries =
    opened (role_of ClientWrite mode length retries) (Waiting asked limit) to
    (canonical (Write (request_of name mode asked)))

-- the OACK of the agreed options
abbrev pub oack_bytes : List Known → List ℕ
oack_bytes agreed = canonical (Oack (agreed_options agreed))

-- a server's end that sends a file of this length: by DATA 1, or by the OACK of the agreed options
abbrev pub serving_read : List Known → Endpoint → Mode → ℕ → ℕ → List ℕ → EndState
serving_read [] peer mode length retries piece =
    opened (role_of ServerRead mode length retries) (Sending (default_terms peer) 1) peer
    (data_bytes 1 piece)
serving_read (known ∷ others) peer mode length retries piece =
    opened (role_of ServerRead mode length retries) (Sending (agreed_terms peer (known ∷ others)) 0)
    peer (oack_bytes (known ∷ others))

-- a server's end that receives: by ACK 0, or by the OACK of the agreed options
abbrev pub serving_write : List Known → Endpoint → Mode → ℕ → EndState
serving_write [] peer mode retries =
    opened (role_of ServerWrite mode 0 retries) (Receiving (default_terms peer) 0) peer
    (ack_bytes 0)
serving_write (known ∷ others) peer mode retries =
    opened (role_of ServerWrite mode 0 retries) (Receiving (agreed_terms peer (known ∷ others)) 0)
    peer (oack_bytes (known ∷ others))

-- the step of an opening
abbrev pub opening_step : Endpoint → Step
opening_step to = record { to = Some to; progress = false; closed = None }

-- the requested block size, or the default one
abbrev pub asked_size : Option ℕ → ℕ
asked_size None = DEFAULT_BLOCK
asked_size (Some size) = size

-- ---- when an opening is allowed
-- this read request is allowed: it is a valid packet, and its options are for a read
pub record MayGet (name : List ℕ) (mode : Mode) (asked : Asked) : Type 0 where
  pub valid : IsValid (Read (request_of name mode asked))
  pub options : IsFor asked kinds.Read mode 0

-- this write request is allowed: it is a valid packet, and its options are for a write
pub record MayAskPut (name : List ℕ) (mode : Mode) (asked : Asked) (length : ℕ) : Type 0 where
  pub valid : IsValid (Write (request_of name mode asked))
  pub options : IsFor asked kinds.Write mode length

-- the same, and the file's blocks can be numbered at the requested block size
pub record MayPut (name : List ℕ) (mode : Mode) (asked : Asked) (length : ℕ) : Type 0 where
  pub valid : IsValid (Write (request_of name mode asked))
  pub options : IsFor asked kinds.Write mode length
  pub fits : length < 65535 * asked_size asked.blksize

-- this write request is allowed, but the file's blocks cannot be numbered at that block size
abbrev pub PutsTooLarge : List ℕ → Mode → Asked → ℕ → Type 0
PutsTooLarge name mode asked length =
    MayAskPut name mode asked length × (65535 * asked_size asked.blksize ≤ length)

-- a read is refused as too large only if its blocks cannot be numbered; its file is unchanged
abbrev pub RefusesLength : {T F : Type 0} → Result T OpenFault → List Known → ℕ → F → F → Type 0
RefusesLength result agreed length before after =
    IsErrOf result open_faults.TooLarge → (65535 * size agreed ≤ length) × (after ≡ before)

module _ {S : Type 0} (sources : SourceMeaning S) where
  -- a read is served: without options the source gave the first block; with options it is not read
  abbrev pub ServesRead : List Known → Endpoint → Mode → ℕ → ℕ → S → S → EndState → Type 0
  ServesRead [] peer mode length retries source source' e =
      (piece : List ℕ)
      × AsksFor sources (block_length length DEFAULT_BLOCK 1) source (sources.left source') piece
      (Ok (block_length length DEFAULT_BLOCK 1))
      × (e ≡ serving_read [] peer mode length retries piece)
      × sources.gives source piece source'
  ServesRead (known ∷ others) peer mode length retries source source' e =
      (source' ≡ source) × (e ≡ serving_read (known ∷ others) peer mode length retries [])

  -- the source does not give the first block of a file of this length: too few bytes, or a fault
  pub record CannotStart (length : ℕ) (source : S) : Type 0 where
    pub after : Option (List ℕ)
    pub answer : Result ℕ FileFault
    pub piece : List ℕ
    pub reads : AsksFor sources (block_length length DEFAULT_BLOCK 1) source after piece answer
    pub short : result_count_is (block_length length DEFAULT_BLOCK 1) answer ≡ false

  -- such a source after the read of the first block: it has the bytes left that the fill left, and
  -- gave what was read
  pub record FailsToStart (length : ℕ) (source source' : S) : Type 0 where
    pub cannot : CannotStart length source
    pub left : sources.left source' ≡ cannot.after
    pub gives : sources.gives source cannot.piece source'

  -- the same, of an end's files
  abbrev pub ServesFiles : {K : Type 0} → List Known → Endpoint → Mode → ℕ → ℕ → Files S K
      → Files S K → EndState → Type 0
  ServesFiles agreed peer mode length retries (Source source) (Source source') e =
      ServesRead agreed peer mode length retries source source' e
  ServesFiles agreed peer mode length retries _ _ e = ⊥

  abbrev pub FilesFailToStart : {K : Type 0} → ℕ → Files S K → Files S K → Type 0
  FilesFailToStart length (Source source) (Source source') = FailsToStart length source source'
  FilesFailToStart length _ _ = ⊥

  -- a read is refused for its source only if its blocks can be numbered, and the source does not
  -- give the first
  abbrev pub RefusesSource : {T K : Type 0} → Result T OpenFault → List Known → ℕ → Files S K
      → Files S K → Type 0
  RefusesSource result agreed length before after =
      IsErrOf result open_faults.SourceFault
      → (length < 65535 * size agreed) × FilesFailToStart length before after
