-- What the request port decides, from the calls that it makes. For eight functions.
use Rattle.std.proofs.lemmas.Grind.{common_steps}
use Rattle.std.proofs.Common.{◌≡◌, ◌≢◌, ℕ, Bool, false, List, [], ◌++◌, Option, Some, None, Result, Ok, Err, IfOk, IsErrOf}
use Rattle.std.proofs.Common.{OnOk, OnErr, ◌+◌, ◌≤◌, append-nil, length, take, refl, ap, arith, rules}
use Rattle.tftp_wire.specs.declared.mode.Mode.{Mode}
use Rattle.tftp_wire.specs.declared.packet.Packet.{Packet}
use Rattle.tftp_wire.specs.declared.packet.Request.{Request}
use Rattle.tftp_negotiate.specs.declared.known.Kind.{Kind}
use Rattle.tftp_negotiate.specs.declared.limits.Limits.{Limits}
use Rattle.tftp_negotiate.specs.declared.known.Known.{Known}
use Rattle.tftp_file.specs.Source.{SourceMeaning}
use Rattle.tftp_file.specs.declared.fault.StoreFault.{StoreFault}
use Rattle.tftp_file.specs.declared.fault.StoreFault.TheVariants.{Memory}
use Rattle.tftp_file.specs.declared.files.Files.TheVariants.{Sink}
use Rattle.tftp_ends.specs.End.{EndState}
use Rattle.tftp_ends.specs.Opening.{serving_write}
use Rattle.tftp_ends.specs.Action.{Decodes}
use Rattle.tftp_wire.specs.Reading.{has_error_opcode}
use Rattle.tftp_ends.specs.Step.{error_bytes}
use Rattle.tftp_ends.specs.declared.endpoint.Endpoint.{Endpoint}
use Rattle.tftp_ends.specs.declared.error_reply.ErrorReply.{ErrorReply}
use Rattle.tftp_server.specs.declared.config.Config.{Config}
use Rattle.tftp_server.specs.declared.fault.ServerFault.{ServerFault}
use Rattle.tftp_server.specs.declared.opened.Opened.{Opened}
use Rattle.tftp_server.specs.Port.{Ask, Ignores, IsAnsweredBy, Refuses, asks, begin_reply, unopened_by}
use Rattle.tftp_server.specs.Request.{Acts, Admits, CarriesOut, Goes, RequestStep, Came, Error_reply, A_transfer, IsRequest, AsksToWrite}
use Rattle.tftp_server.specs.Request.{Decides, left_by}
use Rattle.tftp_server.specs.declared.server.reply.Unopened.{Unopened}
use Rattle.tftp_server.specs.declared.server.reply.Unopened.TheVariants as unopened
use Rattle.tftp_server.specs.State.{TransferState, ServerState, IsRepeated, with_new}
use Rattle.tftp_store.specs.Store.{StoreMeaning, Begins}

-- what was appended before a fault is cut off again
pub cut_off : (before sent all cut : List ℕ) (start : ℕ) → start ≡ length before → all ≡ before ++ sent →
    cut ≡ take start all → cut ≡ before ++ []
cut_off before sent all cut start s a c = grind (arith, common_steps)

-- so that it is as it was
pub cut_back : (before sent all cut : List ℕ) (start : ℕ) → start ≡ length before → all ≡ before ++ sent →
    cut ≡ take start all → cut ≡ before
cut_back before sent all cut start s a c = rw append-nil at (cut_off before sent all cut start s a c)

-- whether a datagram repeats a request, in the server that this one is
pub repeats_in : {S F D : Type 0} (old seen : ServerState S F D) (from : Endpoint) (repeated : Bool)
    (decoded : Option Packet) → seen ≡ old → IsRepeated repeated from decoded seen.held →
    IsRepeated repeated from decoded old.held
repeats_in {S = S} {F = F} {D = D} old seen from repeated decoded is h = search rules

module _ (cap count : ℕ) (limits : Limits) (bytes : List ℕ) (kind : Kind) (request : Request) (decoded : Option Packet)
    (repeated : Bool) (is : IsRequest decoded (Some (kind, request))) (new : repeated ≡ false) where
  -- and when its path is out of memory, the datagram is not one to ignore
  pub acts_by_name : {T E : Type 0} (r : Result T E) → has_error_opcode bytes ≡ false →
      OnErr r (asks cap count repeated limits bytes decoded ≢ Ignores)
  acts_by_name r test = search rules

-- the same for the transfers in the table of a server
module _ {S F D : Type 0} (old : ServerState S F D) (from : Endpoint) (bytes : List ℕ) (decoded : Option Packet)
    (repeated : Bool) (says : Decodes bytes decoded) (repeats : IsRepeated repeated from decoded old.held) where
  abbrev asked_now : Ask
  asked_now = asks old.config.cap (length old.held) repeated old.config.limits bytes decoded

  pub admits_so : (ask : Ask) → ask ≡ asked_now → Admits old from bytes ask
  admits_so ask h = search rules

  pub acts_so : asked_now ≢ Ignores → Acts old from bytes
  acts_so h = (asked_now, admits_so asked_now refl, h)

module _ {S F D : Type 0} (meaning : StoreMeaning S D) (sources : SourceMeaning F) (old : ServerState S F D)
    (from : Endpoint) (bytes : List ℕ) where
  -- a draft was begun
  pub asks_to_write : (path : List ℕ) (mode : Mode) (agreed : List Known) (store : S) (draft : D) (end : EndState)
      (request : List ℕ) (held : TransferState F D) →
      Begins meaning.drafted (meaning.stored old.store) (meaning.stored store) path old.config.overwrite (Ok draft) →
      meaning.begun path old.config.overwrite old.store store (Ok draft) →
      end ≡ serving_write agreed from mode old.config.retries → request ≡ bytes →
      held ≡ record { end = end; files = Sink draft; path = path; request = request } →
      AsksToWrite meaning sources old from bytes path mode agreed (A_transfer held store)
  asks_to_write path mode agreed store draft end request held begins begun opens copies is = search rules

  -- or none was: an ERROR is sent, or memory ran out and nothing has changed
  pub refused_to_write : (path : List ℕ) (mode : Mode) (agreed : List Known) (store : S) (fault : StoreFault)
      (why : Unopened) →
      Begins {K = D} meaning.drafted (meaning.stored old.store) (meaning.stored store) path old.config.overwrite
      (Err fault) →
      meaning.may_refuse_begin old.store path old.config.overwrite fault →
      meaning.begun path old.config.overwrite old.store store (Err fault) →
      (IsErrOf {T = D} (Err fault) Memory → store ≡ old.store) → why ≡ unopened_by fault (begin_reply fault) →
      Decides {F = F} (Err why) store (λ came. AsksToWrite meaning sources old from bytes path mode agreed came)
      (record old { store = store } ≡ old)
  refused_to_write path mode agreed store fault why begins may begun same is = search rules

  -- an ERROR is sent
  pub refuses : (tid : ℕ) (ask : Ask) (reply : ErrorReply) (before after : List ℕ) (r : Result Opened ServerFault) →
      ask ≡ Refuses reply →
      IfOk r (λ opened. opened ≡ record { tid = None; to = Some from }) → OnOk r (after ≡ before ++ error_bytes reply) →
      IfOk r (λ opened. (sent : List ℕ) × (after ≡ before ++ sent) × CarriesOut meaning sources old from bytes ask tid
      (record { new = old; opened = opened; sent = sent }))
  refuses tid ask reply before after (Ok opened) is opened_is ok = (
    error_bytes reply,
    ok,
    record {
      came = Error_reply reply old.store;
      goes = rw is refl;
      left = ap (λ (o : Opened). record { new = old; opened = o; sent = error_bytes reply }) opened_is;
    },
  )
  refuses tid ask reply before after (Err fault) is opened_is ok = tt

-- a datagram that the port admitted is handled as its admission is carried out
pub requested : {S F D E : Type 0} (meaning : StoreMeaning S D) (sources : SourceMeaning F) (old new : ServerState S F D)
    (from : Endpoint) (bytes : List ℕ) (tid : ℕ) (ask : Ask) (before after : List ℕ) (r : Result Opened E) →
    Admits old from bytes ask →
    IfOk r (λ opened. (sent : List ℕ) × (after ≡ before ++ sent) × CarriesOut meaning sources old from bytes ask tid
    (record { new = new; opened = opened; sent = sent })) →
    IfOk r (λ opened. (sent : List ℕ) × (after ≡ before ++ sent) × RequestStep meaning sources old from bytes tid
    (record { new = new; opened = opened; sent = sent }))
requested meaning sources old new from bytes tid ask before after (Ok opened) admits h = (
  h.0,
  h.1,
  record {
    decoded = admits.decoded;
    says = admits.says;
    repeated = admits.repeated;
    repeats = admits.repeats;
    came = h.2.came;
    goes = rw (← admits.asks_for) h.2.goes;
    left = h.2.left;
  },
)
requested meaning sources old new from bytes tid ask before after (Err fault) admits h = tt

-- the server is as it was if the table is
pub not_held : {S F D : Type 0} (config : Config) (store : S) (held held' : List (ℕ × TransferState F D))
    (before cut : List ℕ) → held' ≡ held → cut ≡ before →
    (◌≡◌ {A = ServerState S F D} (record { config = config; store = store; held = held' })
    (record { config = config; store = store; held = held })) × (cut ≡ before)
not_held config store held held' before cut same back = (rw same refl, back)

-- what comes of a request whose file is opened or begun
module _ {S F D : Type 0} (meaning : StoreMeaning S D) (sources : SourceMeaning F) (old new : ServerState S F D)
    (from : Endpoint) (bytes : List ℕ) (tid : ℕ) (before after : List ℕ) (Came_so : Came S F D → Type 0) where
  abbrev Carried : Opened → Type 0
  Carried opened =
      (came : Came S F D) × (sent : List ℕ) × Came_so came × (after ≡ before ++ sent)
      × (record { new = new; opened = opened; sent = sent } ≡ left_by came old from tid)

  pub carried : {E : Type 0} (ask : Ask) (r : Result Opened E) →
      ((came : Came S F D) → Came_so came → Goes meaning sources old from bytes ask came) → IfOk r Carried →
      IfOk r (λ opened. (sent : List ℕ) × (after ≡ before ++ sent) × CarriesOut meaning sources old from bytes ask tid
      (record { new = new; opened = opened; sent = sent }))
  carried ask (Ok opened) goes h = (h.1, h.3, record { came = h.0; goes = goes h.0 h.2; left = h.4 })
  carried ask (Err fault) goes h = tt

  -- a read opens a transfer, which is held
  pub read_opened : (transfer : TransferState F D) → Came_so (A_transfer transfer old.store) →
      after ≡ before ++ transfer.end.position.last_sent →
      new ≡ record old { held = with_new tid transfer old.held } →
      Carried (record { tid = Some tid; to = Some from })
  read_opened transfer came sent is =
      (A_transfer transfer old.store, transfer.end.position.last_sent, came, sent, rw is refl)

  -- or none, and an ERROR is sent
  pub read_refused : {E : Type 0} (Lacks : Type 0) (mid : List ℕ) (why : Unopened) (r : Result Opened E) → new ≡ old →
      Decides (Err why) old.store Came_so Lacks → mid ≡ before ++ [] →
      IfOk r (λ opened. opened ≡ record { tid = None; to = Some from }) →
      OnOk r (IsAnsweredBy why (λ reply. after ≡ mid ++ error_bytes reply)) → IfOk r Carried
  read_refused Lacks mid (unopened.Refused reply) (Ok opened) same came none opened_is ok =
      (Error_reply reply old.store, error_bytes reply, came, rw (ok, none, append-nil) refl, rw (same, opened_is) refl)
  read_refused Lacks mid unopened.Memory (Ok opened) same came none opened_is ok = absurd ok
  read_refused Lacks mid why (Err fault) same came none opened_is ok = tt

-- if no draft is begun, the ERROR has its capacity
pub in_room : {T U E : Type 0} (why : Unopened) (was mid : List ℕ) (most capacity : ℕ) (r : Result U E) →
    (◌≢◌ {A = Result T Unopened} (Err why) (Err unopened.Memory) → length was + most ≤ capacity) → mid ≡ was ++ [] →
    (length mid + most ≤ capacity → OnErr r (why ≡ unopened.Memory)) → OnErr r (why ≡ unopened.Memory)
in_room unopened.Memory was mid most capacity (Ok done) room none refused = tt
in_room unopened.Memory was mid most capacity (Err fault) room none refused = refl
in_room (unopened.Refused reply) was mid most capacity r room none refused =
    refused (rw (none, append-nil) (room (λ e. cc)))

-- ---- a write, for which the table was taken out and put back
module _ {S F D : Type 0} (meaning : StoreMeaning S D) (sources : SourceMeaning F)
    (old taken after new : ServerState S F D) (from : Endpoint) (bytes path : List ℕ) (mode : Mode)
    (agreed : List Known) (tid : ℕ) (none table : List (ℕ × TransferState F D))
    (take : taken ≡ record old { held = none }) (rest : after ≡ record taken { store = after.store })
    (put : new ≡ record after { held = table }) where
  abbrev Written : List ℕ → List ℕ → Opened → Type 0
  Written was out opened =
      (came : Came S F D) × (sent : List ℕ) × AsksToWrite meaning sources old from bytes path mode agreed came
      × (out ≡ was ++ sent) × (record { new = new; opened = opened; sent = sent } ≡ left_by came old from tid)

  pub write_opened : (was out : List ℕ) (transfer : TransferState F D) → table ≡ with_new tid transfer old.held →
      AsksToWrite meaning sources taken from bytes path mode agreed (A_transfer transfer after.store) →
      out ≡ was ++ transfer.end.position.last_sent → Written was out (record { tid = Some tid; to = Some from })
  write_opened was out transfer filled asks sent = search rules

  refused_once : (was mid out : List ℕ) (reply : ErrorReply) (opened : Opened) → table ≡ old.held →
      AsksToWrite meaning sources taken from bytes path mode agreed (Error_reply reply after.store) →
      mid ≡ was ++ [] → opened ≡ record { tid = None; to = Some from } → out ≡ mid ++ error_bytes reply →
      Written was out opened
  refused_once was mid out reply opened back asks sent opened_is ok = search rules

  module _ {E : Type 0} (was mid out : List ℕ) (back : table ≡ old.held) (none_sent : mid ≡ was ++ []) where
    pub write_refused : (why : Unopened) (r : Result Opened E) →
        Decides {F = F} (Err why) after.store
        (λ came. AsksToWrite meaning sources taken from bytes path mode agreed came) (after ≡ taken) →
        IfOk r (λ opened. opened ≡ record { tid = None; to = Some from }) →
        OnOk r (IsAnsweredBy why (λ reply. out ≡ mid ++ error_bytes reply)) → IfOk r (λ opened. Written was out opened)
    write_refused (unopened.Refused reply) (Ok opened) asks opened_is ok =
        refused_once was mid out reply opened back asks none_sent opened_is ok
    write_refused unopened.Memory (Ok opened) asks opened_is ok = absurd ok
    write_refused why (Err fault) asks opened_is ok = tt

    pub write_failed : (why : Unopened) (r : Result Opened E) →
        Decides {F = F} (Err why) after.store
        (λ came. AsksToWrite meaning sources taken from bytes path mode agreed came) (after ≡ taken) →
        OnErr r (why ≡ unopened.Memory) → OnErr r (out ≡ mid) → OnErr r ((new ≡ old) × (out ≡ was))
    write_failed why (Ok opened) asks memory same = tt
    write_failed unopened.Memory (Err fault) asks memory same = search rules
    write_failed (unopened.Refused reply) (Err fault) asks memory same = absurd (cc)
