-- The invariant of the programs between two of their steps: rules of the guarded machine lead to the views of all ends
-- that were opened, and each datagram that was sent is one of its messages. That a message is there (`IsThere`) is said
-- as for the turns of an end.
use Rattle.tftp_promises.proofs.Common.{List, ℕ, ◌≡◌, rules, Endpoint, ◌∙◌, ap, SourceMeaning, Some, StoreMeaning, ◌∷◌}
use Rattle.tftp_promises.proofs.Common.{SinkMeaning, false, true, None, ◌++◌, Programs, Bool, EndState, ◌⊎◌, Contains}
use Rattle.tftp_promises.proofs.Common.{Files, SocketEvent, Option, ◌≢◌, LoopState, slice_get, TransferState, LoopStep}
use Rattle.tftp_promises.proofs.Common.{joined, ClientOf, outcome_of, OpenEnd, is_sender, client_at, endpoint, Snapshot}
use Rattle.tftp_promises.proofs.Common.{at, Run, State, IsStranger, Moved, open_view, Mode, Sink, Source, Spells}
use Rattle.tftp_promises.proofs.Common.{Message, moved_in, EndView, requests_at, IsPrefixOf, ◌<◌, Ok, is_client}
use Rattle.tftp_promises.proofs.Common.{IsShown, all_of, our_ports, WasSentBefore, Has_asked, place_at, moved_at}
use Rattle.tftp_promises.proofs.Common.{peer_of, IsAmong, opened_at, WireRequest, ClientStage, HasClosed, GaveSince}
use Rattle.tftp_promises.proofs.Common.{Network, EndKept, requested, IsUnblamed, slice_get-map, Opening, Unasked}
use Rattle.tftp_promises.proofs.Common.{wire_text, path_of_name, option_map, StoreOpened, TakesInTurn, above, HadStore}
use Rattle.tftp_promises.proofs.Common.{WasCommitted, StoreBegan, ⊤, Role, nothing_moved, inl, inr, sym}
use Rattle.tftp_promises.specs.Openings.{AreEndsApart}
use Rattle.tftp_promises.proofs.Places.{places}
use Rattle.tftp_promises.proofs.Texts.{pad_to}
pub use Rattle.tftp_rules.specs.EndShown.{IsThere, HasArrived}

-- what holds of an end that was opened: its view is among these, and its last datagram among the messages; and it has
-- blamed no peer that is no stranger, if `IsText` says which peers send the text of a file
pub record IsViewed (network : Network) (IsText : Endpoint → Mode → Type 0) (views : List EndView)
    (messages : List Message) (x : OpenEnd) : Type 0 where
  pub kept : EndKept network x
  pub index : ℕ
  pub viewed : slice_get views index ≡ Some (open_view x)
  pub last_sent : IsThere messages x.address x.state.position.last_sent_to x.state.position.last_sent
  pub unblamed : IsUnblamed network IsText messages x.state

-- what a sender gave begins its text, and as long as the end is open what is left comes after it
pub record GaveSo (x : OpenEnd) (moved : Moved) : Type 0 where
  pub prefix : IsPrefixOf moved.bytes x.text
  pub left : outcome_of x.state.position.phase ≡ None → moved.bytes ++ x.left ≡ x.text

-- what a receiver stored is what its sink was handed
pub record TookSo (x : OpenEnd) (moved : Moved) : Type 0 where
  pub stored : x.stored ≡ moved.bytes
  pub committed : x.committed ≡ true → moved.committed ≡ true
  pub refuses : x.refuses ≡ false

-- the draft of an end has taken these bytes since it was begun, while the end is open and nothing is committed; a commit
-- came after them
pub record TookBy {S D : Type 0} (stores : StoreMeaning S D) (HasBeen : S → Type 0) (path : List ℕ) (replace : Bool)
    (first : D) (x : OpenEnd) (bytes : List ℕ) (last : D) : Type 0 where
  pub going : outcome_of x.state.position.phase ≡ None → x.committed ≡ false → TakesInTurn stores first bytes last
  pub done : x.committed ≡ true → WasCommitted stores HasBeen path replace first bytes

-- what is known of the file of an end with what has moved: of a source, or of a sink
abbrev pub FileSo : {S K : Type 0} → (S → OpenEnd → Moved → Type 0) → (K → OpenEnd → Moved → Type 0) → Files S K →
    OpenEnd → Moved → Type 0
FileSo Given Taken (Source source) x moved =
    (is_sender x.state.role.side ≡ true) × GaveSo x moved × Given source x moved
FileSo Given Taken (Sink sink) x moved =
    (is_sender x.state.role.side ≡ false) × TookSo x moved × Taken sink x moved

-- a sink of which no more is known
abbrev pub AnySink : {K : Type 0} → K → OpenEnd → Moved → Type 0
AnySink sink x moved = ⊤

-- the request of a transfer is for its path
pub record IsNamed (there bytes : List ℕ) : Type 0 where
  pub write : Bool
  pub request : WireRequest
  pub spells : Spells (requested write request) bytes
  pub path : path_of_name request.name ≡ Ok there

-- and still is after a step
pub named_still : {there there' bytes bytes' : List ℕ} → there' ≡ there → bytes' ≡ bytes → IsNamed there bytes →
    IsNamed there' bytes'
named_still {there = there} {bytes' = bytes'} same is h = search rules

-- what a client has moved
abbrev pub moved_by : {G K : Type 0} → ClientStage G K → Moved
moved_by Unasked = nothing_moved
moved_by (Has_asked s files noted moved) = moved

-- the length of a transfer's file, as it was measured when the transfer opened
abbrev pub length_of : {F D : Type 0} → Option (TransferState F D) → ℕ
length_of None = 0
length_of (Some held) = held.end.role.length

module _ {S F D G K : Type 0} {stores : StoreMeaning S D} {sources : SourceMeaning F} {inputs : SourceMeaning G}
    {outputs : SinkMeaning K} (programs : Programs stores sources inputs outputs) where
  -- the text of a client that sends: what moved in its run, padded by this byte
  abbrev pub client_text : ℕ → ClientOf programs → List ℕ
  client_text pad client = pad_to pad client.first.role.length (moved_in client.runs).bytes

  -- the text of a transfer that sends, at this place
  abbrev pub place_text : ℕ → Endpoint → List ℕ
  place_text pad a =
      pad_to pad (length_of (opened_at programs a programs.server.run)) (moved_at programs a programs.server.run).bytes

  -- what a client or a transfer there sends is the text of a file in this mode
  pub record SendsText (pad : ℕ) (a : Endpoint) (mode : Mode) : Type 0 where
    pub file : List ℕ
    pub client : (k : ℕ) (client : ClientOf programs) → slice_get programs.clients k ≡ Some client →
        a ≡ client_at client → wire_text mode file ≡ client_text pad client
    pub transfer : ((k : ℕ) (client : ClientOf programs) → slice_get programs.clients k ≡ Some client →
        a ≢ client_at client) →
        (opening : TransferState F D) → opened_at programs a programs.server.run ≡ Some opening →
        wire_text mode file ≡ place_text pad a

  -- a client's source has given since what was sent
  pub record ClientGiven (client : ClientOf programs) (source : G) (x : OpenEnd) (moved : Moved) : Type 0 where
    pub first : G
    pub is_first : client.file ≡ Source first
    pub since : GaveSince inputs first x.state moved.bytes source

  -- what is known of the file of a client's end
  pub record HasFile (pad : ℕ) (client : ClientOf programs) (x : OpenEnd) (files : Files G K) (moved : Moved) : Type 0 where
    pub role : x.state.role ≡ client.first.role
    pub text : is_sender x.state.role.side ≡ true → x.text ≡ client_text pad client
    pub file : FileSo (ClientGiven client) AnySink files x moved

  -- the end of a client that has asked
  pub record ClientKept (pad : ℕ) (views : List EndView) (messages : List Message) (client : ClientOf programs)
      (s : State) (files : Files G K) (moved : Moved) : Type 0 where
    pub end : OpenEnd
    pub address : end.address ≡ client_at client
    pub state : end.state ≡ s.end
    pub side : is_client end.state.role.side ≡ true
    pub viewed : IsViewed (joined programs) (SendsText pad) views messages end
    -- its request is among the messages
    pub asks : IsThere messages (client_at client) (requests_at programs) client.first.position.last_sent
    pub has : HasFile pad client end files moved

  -- the end of a client, once it has asked
  abbrev pub StageKept : ℕ → List EndView → List Message → ClientOf programs → ClientStage G K → Type 0
  StageKept pad views messages client Unasked = Unit {0}
  StageKept pad views messages client (Has_asked s files noted moved) =
      ClientKept pad views messages client s files moved

  -- the end of a stranger's transfer: its peer is one, and its last datagram went to one
  pub record IsStrangers (e : EndState) : Type 0 where
    pub peer : Endpoint
    pub is_peer : peer_of e.position.phase ≡ Some peer
    pub strange : IsStranger programs peer
    pub last_sent_to : IsStranger programs e.position.last_sent_to

  -- the endpoint of a client that has asked
  pub record IsOfClient (stages : List (ClientStage G K)) (a : Endpoint) : Type 0 where
    pub k : ℕ
    pub client : ClientOf programs
    pub found : slice_get programs.clients k ≡ Some client
    pub s : State
    pub files : Files G K
    pub noted : List SocketEvent
    pub moved : Moved
    pub is_stage : slice_get stages k ≡ Some (Has_asked s files noted moved)
    pub address : a ≡ client_at client

  module _ {state : LoopState S F D} (run : Run (LoopStep stores sources) programs.server.start state) where
    -- what a run, the server's so far, says of a transfer at its place: it was opened so
    pub record IsOpened (a : Endpoint) (its_path : List ℕ) (its_role : Role) : Type 0 where
      pub opening : TransferState F D
      pub opened : opened_at programs a run ≡ Some opening
      pub path : opening.path ≡ its_path
      pub role : opening.end.role ≡ its_role

    -- the store opened its file so, and its source has given since what was sent
    pub record IsGiven (source : F) (x : OpenEnd) (moved : Moved) : Type 0 where
      pub opening : Opening F
      pub first : StoreOpened run x.path x.request x.state.role.mode opening
      pub long : x.state.role.length ≡ opening.length
      pub since : GaveSince sources opening.source x.state moved.bytes source

    -- the store began its draft so, and that has taken since what was handed to it
    pub record IsTaken (draft : D) (x : OpenEnd) (moved : Moved) : Type 0 where
      pub first : D
      pub began : StoreBegan run x.path x.request x.state.role.mode programs.server.start.server.config.overwrite first
      pub since : TookBy stores (HadStore run) x.path programs.server.start.server.config.overwrite first x moved.bytes
          draft

    -- what is known of the file of a transfer
    pub record IsStored (pad : ℕ) (x : OpenEnd) (files : Files F D) : Type 0 where
      pub opened : IsOpened x.address x.path x.state.role
      pub text : is_sender x.state.role.side ≡ true → x.text ≡ place_text pad x.address
      pub file : FileSo IsGiven IsTaken files x (moved_at programs x.address run)

module _ {S F D G K : Type 0} {stores : StoreMeaning S D} {sources : SourceMeaning F} {inputs : SourceMeaning G}
    {outputs : SinkMeaning K} {programs : Programs stores sources inputs outputs} where
  -- the server holds the transfer, which is at this place, or has removed it
  abbrev pub HasTransferBy : Snapshot programs → ℕ → TransferState F D → Endpoint → Type 0
  HasTransferBy snapshot port transfer a =
      ((at port snapshot.state.server.held ≡ Some transfer) × (a ≡ place_at programs port snapshot.run))
      ⊎ HasClosed programs snapshot.run port transfer a

  -- what is known of the file of a transfer
  abbrev pub HasStored : ℕ → Snapshot programs → OpenEnd → Files F D → Type 0
  HasStored pad snapshot x files = IsStored programs snapshot.run pad x files

  -- so how it was opened
  pub stored_opened : (pad : ℕ) (snapshot : Snapshot programs) (x : OpenEnd) (files : Files F D) →
      HasStored pad snapshot x files → IsOpened programs snapshot.run x.address x.path x.state.role
  stored_opened pad snapshot x files has = has.opened

  -- the end of a transfer, held or removed, which is at its port, or a stranger's
  pub record TransferKept (pad : ℕ) (views : List EndView) (messages : List Message) (snapshot : Snapshot programs)
      (port : ℕ) (transfer : TransferState F D) (a : Endpoint) : Type 0 where
    pub end : OpenEnd
    pub address : end.address ≡ a
    pub seat : (a ≡ endpoint programs.ip port) ⊎ IsStrangers programs end.state
    pub state : end.state ≡ transfer.end
    pub path : end.path ≡ transfer.path
    pub request : end.request ≡ transfer.request
    pub named : IsNamed transfer.path transfer.request
    pub side : is_client end.state.role.side ≡ false
    pub viewed : IsViewed (joined programs) (SendsText programs pad) views messages end
    pub has : HasStored pad snapshot end transfer.files

  -- a transfer whose end is as it was, and is still viewed with what its file did
  pub same_transfer : {pad : ℕ} {views views' : List EndView} {messages messages' : List Message}
      {snapshot snapshot' : Snapshot programs} {port : ℕ} {transfer : TransferState F D} {a : Endpoint}
      (h : TransferKept pad views messages snapshot port transfer a) →
      IsViewed (joined programs) (SendsText programs pad) views' messages' h.end →
      HasStored pad snapshot' h.end transfer.files → TransferKept pad views' messages' snapshot' port transfer a
  same_transfer h viewed has = search rules

  -- the same, by whether the server holds it still
  abbrev pub StandsAt : Snapshot programs → Bool → ℕ → TransferState F D → Endpoint → Type 0
  StandsAt snapshot true port transfer a =
      (at port snapshot.state.server.held ≡ Some transfer) × (a ≡ place_at programs port snapshot.run)
  StandsAt snapshot false port transfer a = HasClosed programs snapshot.run port transfer a

  -- no two transfers, held or removed, are at one place
  abbrev pub AreApart : Snapshot programs → Type 0
  AreApart snapshot =
      (g h : Bool) (p q : ℕ) (t u : TransferState F D) (a : Endpoint) → StandsAt snapshot g p t a →
      StandsAt snapshot h q u a → (g ≡ h) × (p ≡ q) × (t ≡ u)

  pub apart_once : (snapshot : Snapshot programs) → AreApart snapshot → (p q : ℕ) (t u : TransferState F D)
      (a b : Endpoint) → HasTransferBy snapshot p t a → HasTransferBy snapshot q u b → a ≡ b → t ≡ u
  apart_once snapshot apart p q t u a b (inl x) (inl y) same = (apart true true p q t u b (x.0, sym same ∙ x.1) y).2
  apart_once snapshot apart p q t u a b (inl x) (inr y) same =
      (apart true false p q t u b (x.0, sym same ∙ x.1) y).2
  apart_once snapshot apart p q t u a b (inr x) (inl y) same = (apart false true p q t u a x (y.0, same ∙ y.1)).2
  apart_once snapshot apart p q t u a b (inr x) (inr y) same = (apart false false p q t u b (rw (same) at x) y).2

  -- the server
  pub record ServerKept (messages : List Message) (snapshot : Snapshot programs) : Type 0 where
    pub pending : (from : Endpoint) (bytes : List ℕ) → snapshot.state.pending ≡ Some (from, bytes) →
        HasArrived messages from (requests_at programs) bytes
    pub apart : AreApart snapshot
    pub once : (p q : ℕ) (t u : TransferState F D) (a b : Endpoint) → HasTransferBy snapshot p t a →
        HasTransferBy snapshot q u b → a ≡ b → t ≡ u
    pub opened : (port : ℕ) (transfer : TransferState F D) (a : Endpoint) → HasTransferBy snapshot port transfer a →
        Contains (places programs snapshot.run) a

  -- the place of a transfer, held or removed
  pub record IsOfTransfer (snapshot : Snapshot programs) (a : Endpoint) : Type 0 where
    pub port : ℕ
    pub transfer : TransferState F D
    pub is_transfer : HasTransferBy snapshot port transfer a

  -- the invariant
  pub record IsKept (pad : ℕ) (snapshot : Snapshot programs) : Type 0 where
    pub views : List EndView
    pub messages : List Message
    pub shown : IsShown (joined programs) views messages
    -- what was sent is there, unless it is for a stranger
    pub sent : (from to : Endpoint) (bytes : List ℕ) → WasSentBefore snapshot from to bytes →
        IsThere messages from to bytes ⊎ IsStranger programs to
    pub server : ServerKept messages snapshot
    pub clients : (k : ℕ) (client : ClientOf programs) (stage : ClientStage G K) →
        slice_get programs.clients k ≡ Some client → slice_get snapshot.clients k ≡ Some stage →
        StageKept programs pad views messages client stage
    pub transfers : (port : ℕ) (transfer : TransferState F D) (a : Endpoint) → HasTransferBy snapshot port transfer a →
        TransferKept pad views messages snapshot port transfer a
    -- the view of an end at an endpoint is the only one there, so this determines it
    pub only : (view : EndView) → IsAmong views view →
        IsOfClient programs snapshot.clients view.address ⊎ IsOfTransfer snapshot view.address

  -- the end of a client in the end state
  pub client_kept : {pad : ℕ} (kept : IsKept pad (all_of programs)) (k : ℕ) (client : ClientOf programs) →
      slice_get programs.clients k ≡ Some client →
      ClientKept programs pad kept.views kept.messages client client.last client.files (moved_in client.runs)
  client_kept kept k client found =
      kept.clients k client (Has_asked client.last client.files client.noted (moved_in client.runs)) found
      (slice_get-map (λ (c : ClientOf programs). Has_asked c.last c.files c.noted (moved_in c.runs)) programs.clients k
      ∙ ap (option_map (λ (c : ClientOf programs). Has_asked c.last c.files c.noted (moved_in c.runs))) found)

  -- what has moved so far at the place of a transfer that was opened begins what moved there in all, at the same
  -- transfer
  pub record IsToldAt (snapshot : Snapshot programs) (a : Endpoint) : Type 0 where
    pub bytes : IsPrefixOf (moved_at programs a snapshot.run).bytes (moved_at programs a programs.server.run).bytes
    pub opened : opened_at programs a snapshot.run ≡ opened_at programs a programs.server.run

  -- what the steps need: ports of the clients' transfers so far that no two ends have, below the places of others, and
  -- that what has moved so far begins what moved in all
  pub record IsFreshBy (snapshot : Snapshot programs) : Type 0 where
    pub ends : AreEndsApart programs (programs.port ∷ our_ports programs snapshot.run)
    pub below : (port : ℕ) → Contains (our_ports programs snapshot.run) port → port < above programs
    pub told : (a : Endpoint) → Contains (places programs snapshot.run) a → IsToldAt snapshot a
    pub gave : (k : ℕ) (client : ClientOf programs) (stage : ClientStage G K) →
        slice_get programs.clients k ≡ Some client → slice_get snapshot.clients k ≡ Some stage →
        IsPrefixOf (moved_by stage).bytes (moved_in client.runs).bytes
