-- A request opens an end of the server, as a rule of the guarded machine (RFC 1350, section 4; RFC
-- 2347, "Negotiation Protocol").
use Rattle.std.specs.Prelude.{◌≡◌, ◌≢◌, ℕ, ◌<◌, ◌≤◌, ◌^◌, Bool, true, false, List, [], ◌∷◌, ◌++◌}
use Rattle.std.specs.Prelude.{drop, length, Ok}
use Rattle.std.specs.List.{AllByRecursion, Contains}
use Rattle.tftp_wire.specs.declared.limits.TheConstants.{MAX_BLOCK}
use Rattle.tftp_wire.specs.declared.mode.Mode.{Mode}
use Rattle.tftp_wire.specs.declared.options.RawOption.{RawOption}
use Rattle.tftp_wire.specs.declared.packet.Packet.{Packet as WirePacket}
use Rattle.tftp_wire.specs.declared.packet.Packet.TheVariants.{Oack as WireOack}
use Rattle.tftp_wire.specs.declared.packet.Request.{Request as WireRequest}
use Rattle.tftp_wire.specs.Spelling.{IsValid, Spells, canonical}
use Rattle.tftp_negotiate.specs.declared.known.Kind.{Kind}
use Rattle.tftp_negotiate.specs.declared.known.Known.{Known}
use Rattle.tftp_negotiate.specs.declared.limits.Limits.{Limits}
use Rattle.tftp_negotiate.specs.declared.limits.TheConstants.{DEFAULT_BLOCK}
use Rattle.tftp_negotiate.specs.Agreed.{IsAgreeable, agreed_options, size}
use Rattle.tftp_negotiate.specs.Answer.{answer}
use Rattle.tftp_negotiate.specs.Ranges.{IsBlockSize}
use Rattle.tftp_file.specs.Block.{block, Fits}
use Rattle.tftp_ends.specs.End.{EndState, is_client}
use Rattle.tftp_ends.specs.Opening.{serving_read, serving_write}
use Rattle.tftp_rules.specs.EndKept.{EndKept}
use Rattle.tftp_rules.specs.Machine.{Endpoint, At_server, Message, Network, Request}
use Rattle.tftp_rules.specs.OpenEnds.{OpenEnd, open_view}
use Rattle.tftp_rules.specs.Rules.{Rule, message}
use Rattle.tftp_rules.specs.Said.{said}
use Rattle.tftp_rules.specs.Shows.{EndView, IsShownAt, IsShownWithin, NoneAnswers, NoneAt}
use Rattle.tftp_rules.specs.Shows.{requested}

-- options that a server may agree to, and whose OACK can be spelled
pub record AreGranted (agreed : List Known) : Type 0 where
  pub values : AllByRecursion IsAgreeable agreed
  pub positive : 0 < size agreed
  pub small : size agreed ≤ MAX_BLOCK
  pub oack : agreed ≢ [] → IsValid (WireOack (agreed_options agreed))

-- a server may agree to what it answers
abbrev pub AnswersAreGranted : Type 0
AnswersAreGranted =
    (options : List RawOption) (kind : Kind) (mode : Mode) (file_length : ℕ) (limits : Limits)
    (agreed : List Known) → file_length < 2 ^ 64 → IsBlockSize limits.max_block →
    answer options kind mode file_length limits ≡ Ok agreed → AreGranted agreed

-- the text that a sender has left after its first datagram: without options DATA 1 was read
abbrev pub left_at_first : List Known → List ℕ → List ℕ
left_at_first [] text = drop DEFAULT_BLOCK text
left_at_first (known ∷ agreed) text = text

-- the end of a read of this text, as it opens
abbrev pub sending : List Known → Endpoint → Mode → List ℕ → ℕ → EndState
sending agreed peer mode text retries =
    serving_read agreed peer mode (length text) retries (block text DEFAULT_BLOCK 1)

-- the same with its files: a file whose text this is
abbrev pub new_sender : Endpoint → List ℕ → List Known → Endpoint → Mode → List ℕ → List ℕ → List ℕ
    → ℕ → OpenEnd
new_sender a bytes agreed from mode path file text retries =
    record {
      address = a;
      state = sending agreed from mode text retries;
      path = path;
      file = file;
      text = text;
      left = left_at_first agreed text;
      stored = [];
      committed = false;
      refuses = false;
      request = bytes;
    }

-- the end of a write, as it opens
abbrev pub new_receiver : Endpoint → List ℕ → List Known → Endpoint → Mode → List ℕ → ℕ → OpenEnd
new_receiver a bytes agreed from mode path retries =
    record {
      address = a;
      state = serving_write agreed from mode retries;
      path = path;
      file = [];
      text = [];
      left = [];
      stored = [];
      committed = false;
      refuses = false;
      request = bytes;
    }

module _ (network : Network) where
  -- these bytes are a request that was sent from there, and that no end answers
  pub record IsNewly (views : List EndView) (messages : List Message) (from : Endpoint)
      (bytes : List ℕ) (write : Bool) (request : WireRequest) : Type 0 where
    pub sent : Contains messages (message from network.request_port (Request write request))
    pub spells : Spells (requested write request) bytes
    pub unanswered : NoneAnswers views from (requested write request)

  -- the end x opens and sends its first datagram to its peer, after which views and messages refine
  -- the machine after more rules
  pub record EndOpens (first : List Rule) (views : List EndView) (messages : List Message)
      (from : Endpoint) (x : OpenEnd) : Type 0 where
    pub packet : WirePacket
    pub valid : IsValid packet
    pub last_sent : x.state.position.last_sent ≡ canonical packet
    pub last_sent_to : x.state.position.last_sent_to ≡ from
    pub kept : EndKept network x
    pub side : is_client x.state.role.side ≡ false
    pub shown : IsShownWithin network 3 first (views ++ open_view x ∷ [])
        (messages ++ message x.address from (said packet) ∷ [])

  -- a request to read opens such an end at a new endpoint of the server
  abbrev pub ReadsOpen : Type 0
  ReadsOpen =
      (first : List Rule) (views : List EndView) (messages : List Message) (a from : Endpoint)
      (bytes : List ℕ) (request : WireRequest) (path file text : List ℕ) (agreed : List Known)
      (retries : ℕ) →
      IsShownAt network first views messages → network.host_of a ≡ At_server → NoneAt views a →
      IsNewly views messages from bytes false request → AreGranted agreed →
      Fits text (size agreed) →
      EndOpens first views messages from
      (new_sender a bytes agreed from request.mode path file text retries)

  -- and so does a request to write
  abbrev pub WritesOpen : Type 0
  WritesOpen =
      (first : List Rule) (views : List EndView) (messages : List Message) (a from : Endpoint)
      (bytes : List ℕ) (request : WireRequest) (path : List ℕ) (agreed : List Known)
      (retries : ℕ) →
      IsShownAt network first views messages → network.host_of a ≡ At_server → NoneAt views a →
      IsNewly views messages from bytes true request → AreGranted agreed →
      EndOpens first views messages from
      (new_receiver a bytes agreed from request.mode path retries)
