-- Which views of ends and which messages refine a state of the guarded machine.
use Rattle.std.specs.Prelude.{◌≡◌, ◌≢◌, ◌⊎◌, ℕ, ◌≤◌, Bool, true, false, not, List, [], ◌∷◌, ◌++◌}
use Rattle.std.specs.Prelude.{length}
use Rattle.std.specs.Prelude.{slice_get, Option, Some}
use Rattle.tftp_wire.specs.Spelling.{Spells}
use Rattle.tftp_wire.specs.declared.mode.Mode.{Mode}
use Rattle.tftp_wire.specs.declared.packet.Packet.{Packet as WirePacket}
use Rattle.tftp_wire.specs.declared.packet.Packet.TheVariants.{Read, Write}
use Rattle.tftp_wire.specs.declared.packet.Request.{Request as WireRequest}
use Rattle.tftp_file.specs.Block.{IsPrefixOf}
use Rattle.tftp_rules.specs.Machine.{Endpoint, Message, Party, no_request, Machine, start}
use Rattle.tftp_rules.specs.Machine.{Network}
use Rattle.tftp_rules.specs.Rules.{Rule, Asks, Opens_plainly, Opens_with, Says_error, Repeats}
use Rattle.tftp_rules.specs.Rules.{Strays, actor, MayAct, packets, party_after, IsLegal, run}

-- the view of an end that was opened
pub record EndView : Type 0 where
  pub address : Endpoint
  pub client : Bool
  pub sender : Bool
  pub mode : Mode
  pub peer : Option Endpoint
  pub size : ℕ
  pub number : ℕ
  -- it is complete
  pub complete : Bool
  -- it is closed and not complete
  pub failed : Bool
  -- a sender's wire text; at a receiver the wire text of what it stored, and the text held back
  pub text : List ℕ
  -- the bytes of the request that an open end of the server answers
  pub request : List ℕ

-- the party of a view, which has neither `plain` nor a decoded request
abbrev pub party_of : EndView → Party
party_of e =
    record {
      is_open = true;
      client = e.client;
      sender = e.sender;
      plain = false;
      mode = e.mode;
      request = no_request;
      peer = e.peer;
      size = e.size;
      number = e.number;
      complete = e.complete;
      failed = e.failed;
      text = e.text;
    }

-- the view of the party x at this endpoint, with the bytes of its request
abbrev pub view_of : Endpoint → List ℕ → Party → EndView
view_of a request x =
    record {
      address = a;
      client = x.client;
      sender = x.sender;
      mode = x.mode;
      peer = x.peer;
      size = x.size;
      number = x.number;
      complete = x.complete;
      failed = x.failed;
      text = x.text;
      request = request;
    }

-- the view is that of this party; of a failed receiver it has only a prefix of the text
pub record Matches (e : EndView) (x : Party) : Type 0 where
  pub is_open : x.is_open ≡ true
  pub client : x.client ≡ e.client
  pub sender : x.sender ≡ e.sender
  pub mode : x.mode ≡ e.mode
  pub peer : x.peer ≡ e.peer
  pub size : x.size ≡ e.size
  pub number : x.number ≡ e.number
  pub complete : x.complete ≡ e.complete
  pub failed : x.failed ≡ e.failed
  pub prefix : IsPrefixOf e.text x.text
  pub whole : e.complete ≡ true → x.text ≡ e.text
  pub live : e.complete ≡ false → e.failed ≡ false → x.text ≡ e.text
  pub sent : e.sender ≡ true → x.text ≡ e.text

-- a request, to write or to read
abbrev pub requested : Bool → WireRequest → WirePacket
requested true request = Write request
requested false request = Read request

-- the request that the server's end x answers
abbrev pub answered_by : Party → WirePacket
answered_by x = requested (not x.sender) x.request

-- an end of the server that is neither complete nor failed
abbrev pub IsInService : EndView → Type 0
IsInService e = (e.client ≡ false) × (e.complete ≡ false) × (e.failed ≡ false)

-- no two of the ends are at one endpoint
abbrev pub AreApart : List EndView → Type 0
AreApart views =
    (j k : ℕ) (e f : EndView) → slice_get views j ≡ Some e → slice_get views k ≡ Some f →
    e.address ≡ f.address → j ≡ k

-- none of the ends is at this endpoint
abbrev pub NoneAt : List EndView → Endpoint → Type 0
NoneAt views a = (k : ℕ) (e : EndView) → slice_get views k ≡ Some e → e.address ≢ a

-- the view has the request that its end answers: an end in service, or one of the server that has
-- closed and whose request is shown still
abbrev pub HasRequest : EndView → Type 0
HasRequest e = IsInService e ⊎ ((e.client ≡ false) × (e.request ≢ []))

-- the views and the messages are those of the machine
pub record Shows (views : List EndView) (messages : List Message) (m : Machine) : Type 0 where
  pub sent : m.sent ≡ messages
  pub ends : (k : ℕ) (e : EndView) → slice_get views k ≡ Some e → Matches e (m.party e.address)
  pub apart : AreApart views
  pub asked : (k : ℕ) (e : EndView) → slice_get views k ≡ Some e → HasRequest e →
      Spells (answered_by (m.party e.address)) e.request
  pub only : (a : Endpoint) → (m.party a).is_open ≡ true →
      (k : ℕ) × (e : EndView) × (slice_get views k ≡ Some e) × (e.address ≡ a)

-- the end after them
abbrev pub party_then : List Rule → Party → Party
party_then [] x = x
party_then (r ∷ rs) x = party_then rs (party_after r x)

-- the rule opens an end
abbrev pub OpensEnd : Rule → Type 0
OpensEnd (Asks at write request text) = Unit {0}
OpensEnd (Opens_plainly at peer write request text) = Unit {0}
OpensEnd (Opens_with at peer write request text size) = Unit {0}
OpensEnd _ = ⊥

-- the rule changes no end
abbrev pub Speaks : Rule → Type 0
Speaks (Says_error at to) = Unit {0}
Speaks (Repeats old) = Unit {0}
Speaks (Strays stray) = Unit {0}
Speaks _ = ⊥

-- an end of the server answers this packet of that peer, and is neither complete nor failed
pub record IsAnswering (e : EndView) (peer : Endpoint) (packet : WirePacket) : Type 0 where
  pub serving : IsInService e
  pub peer_is : e.peer ≡ Some peer
  pub spells : Spells packet e.request

-- none of the ends answers it
abbrev pub NoneAnswers : List EndView → Endpoint → WirePacket → Type 0
NoneAnswers views peer packet =
    (k : ℕ) (e : EndView) → slice_get views k ≡ Some e → IsAnswering e peer packet → ⊥

-- a rule that opens an end at the server does so by a request that these bytes spell and that no
-- end answers
abbrev pub AsksUnanswered : Rule → List ℕ → List EndView → Type 0
AsksUnanswered (Opens_plainly at peer write request text) bytes views =
    Spells (requested write request) bytes × NoneAnswers views peer (requested write request)
AsksUnanswered (Opens_with at peer write request text size) bytes views =
    Spells (requested write request) bytes × NoneAnswers views peer (requested write request)
AsksUnanswered rule bytes views = Unit {0}

module _ (network : Network) where
  -- the rules are legal from the start, and these refine the machine after them
  abbrev pub IsShownAt : List Rule → List EndView → List Message → Type 0
  IsShownAt rules views messages =
      IsLegal network rules start × Shows views messages (run network rules start)

  -- there are such rules
  abbrev pub IsShown : List EndView → List Message → Type 0
  IsShown views messages = (rules : List Rule) × IsShownAt rules views messages

  -- there are such rules that extend these by at most `most`
  abbrev pub IsShownWithin : ℕ → List Rule → List EndView → List Message → Type 0
  IsShownWithin most rules views messages =
      (more : List Rule) × (length more ≤ most) × IsShownAt (rules ++ more) views messages

  -- the rules may act one after another at the endpoint of the end x, by the datagrams sent before
  abbrev pub ActInTurn : List Rule → Endpoint → List Message → Party → Type 0
  ActInTurn [] at sent x = Unit {0}
  ActInTurn (r ∷ rs) at sent x =
      (actor r ≡ at) × MayAct network r sent x × ActInTurn rs at sent (party_after r x)

  -- the datagrams that they send
  abbrev pub sent_by : List Rule → Party → List Message
  sent_by [] x = []
  sent_by (r ∷ rs) x = packets network r x ++ sent_by rs (party_after r x)
