-- A step with one file is a step with another file that has the same model.
use Rattle.std.specs.Prelude.{ℕ, ◌≡◌, ◌↔◌, Bool, true, false, List, [], ◌∷◌, Result, Ok, Err}
use Rattle.std.specs.Prelude.{IfErr, Option}
use Rattle.std.proofs.Common.{ap, sym, subst}
use Rattle.tftp_file.specs.Source.{SourceMeaning}
use Rattle.tftp_file.specs.Sink.{SinkMeaning}
use Rattle.tftp_file.specs.declared.fault.StoreFault.{StoreFault}
use Rattle.tftp_file.specs.declared.files.Files.{Files}
use Rattle.tftp_file.specs.declared.files.Files.TheVariants.{Source, Sink}
use Rattle.tftp_ends.specs.declared.action.Action.{Action}
use Rattle.tftp_ends.specs.declared.action.Action.TheVariants.{Respond, Send, Store}
use Rattle.tftp_ends.specs.declared.endpoint.Endpoint.{Endpoint}
use Rattle.tftp_ends.specs.declared.phase.Terms.{Terms}
use Rattle.tftp_ends.specs.End.{EndState}
use Rattle.tftp_ends.specs.Files.{KeepsFiles}
use Rattle.tftp_ends.specs.Step.{Done, Turn, Sends, Appended, Committed, GoesOn, Stores, Acts}
use Rattle.tftp_ends.specs.Step.{DatagramStep}

-- sources seen as values of another type: the same bytes are left, their faults are allowed, the
-- same fills must fail, and they give the same bytes
pub record SourcesModel {S T : Type 0} (seen : S → T) (sources : SourceMeaning S)
    (sources' : SourceMeaning T) : Type 0 where
  pub models : (source : S) → sources'.left (seen source) ≡ sources.left source
  pub fails : (source : S) (want : ℕ) → sources.may_fail source want
      → sources'.may_fail (seen source) want
  pub must : (source : S) (want : ℕ) → sources'.fails (seen source) want ↔ sources.fails source want
  pub gives : (source source' : S) (piece : List ℕ) → sources.gives source piece source'
      → sources'.gives (seen source) piece (seen source')

-- the same, of sinks for which `holds`, which an append preserves
pub record SinksModel {K L : Type 0} (seen : K → L) (holds : K → Type 0) (sinks : SinkMeaning K)
    (sinks' : SinkMeaning L) : Type 0 where
  pub models : (sink : K) → sinks'.held (seen sink) ≡ sinks.held sink
  pub keeps : (sink sink' : K) → holds sink → sinks.becomes sink sink' false → holds sink'
  pub appends : (sink : K) (bytes : List ℕ) (fault : StoreFault) → holds sink
      → sinks.may_refuse_append sink bytes fault → sinks'.may_refuse_append (seen sink) bytes fault
  pub commits : (sink : K) (fault : StoreFault) → holds sink → sinks.may_refuse_commit sink fault
      → sinks'.may_refuse_commit (seen sink) fault
  pub leaves : (sink sink' : K) (committed : Bool) → holds sink → sinks.becomes sink sink' committed
      → sinks'.becomes (seen sink) (seen sink') committed
  pub after_append : (sink sink' : K) (bytes : List ℕ) (fault : Option StoreFault) → holds sink
      → sinks.after_append sink bytes sink' fault
      → sinks'.after_append (seen sink) bytes (seen sink') fault
  pub after_commit : (sink sink' : K) (fault : Option StoreFault) → holds sink
      → sinks.after_commit sink sink' fault → sinks'.after_commit (seen sink) (seen sink') fault

-- the files of an end, each seen as a value of another type
abbrev pub seen_as : {S T K L : Type 0} → (S → T) → (K → L) → Files S K → Files T L
seen_as source sink (Source s) = Source (source s)
seen_as source sink (Sink k) = Sink (sink k)

-- this holds of the sink, if there is one
abbrev pub OfSink : {S K : Type 0} → (K → Type 0) → Files S K → Type 0
OfSink holds (Source s) = Unit {0}
OfSink holds (Sink k) = holds k

-- a fault that one may return, the other may return
faults : {A E : Type 0} (answer : Result A E) (P Q : E → Type 0) → ((fault : E) → P fault → Q fault)
    → IfErr answer P → IfErr answer Q
faults (Ok done) P Q f h = tt
faults (Err fault) P Q f h = f fault h

-- the source, or the sink, of files that have one
abbrev source_or : {S K : Type 0} → S → Files S K → S
source_or other (Source s) = s
source_or other (Sink k) = other

abbrev sink_or : {S K : Type 0} → K → Files S K → K
sink_or other (Source s) = other
sink_or other (Sink k) = k

module _ {S T K L : Type 0} (sources : SourceMeaning S) (sinks : SinkMeaning K)
    (sources' : SourceMeaning T) (sinks' : SinkMeaning L) where
  -- ---- a source, whatever the sinks are
  module _ (source_as : S → T) (source_models : SourcesModel source_as sources sources') where
    sends_as : (terms : Terms) (number : ℕ) (from : Endpoint) (e : EndState) (s : S) (turn : Turn)
        (s' : S) →
        Sends sources terms number from e s turn s' →
        Sends sources' terms number from e (source_as s) turn (source_as s')
    sends_as terms number from e s turn s' h =
        record {
          answer = h.answer;
          piece = h.piece;
          reads =
              record {
                fills = rw (source_models.models s, source_models.models s') h.reads.fills;
                read = λ q. source_models.fails s _ (h.reads.read q);
                fails = λ f. h.reads.fails ((source_models.must s _).0 f);
                memory = h.reads.memory;
              };
          gives = source_models.gives s s' h.piece h.gives;
          answers = h.answers;
        }

    source_acts_as : (action : Action) (from : Endpoint) (bytes : List ℕ) (e : EndState) (s : S)
        (turn : Turn) (s' : S) →
        Acts sources sinks action from bytes e (Source s) turn (Source s') →
        Acts sources' sinks' action from bytes e (Source (source_as s)) turn (Source (source_as s'))
    source_acts_as (Respond response) from bytes e s turn s' h =
        (h.0, ap (λ (f : Files S K). Source (source_as (source_or s f))) h.1)
    source_acts_as (Send terms number) from bytes e s turn s' h =
        sends_as terms number from e s turn s' h
    source_acts_as (Store terms number) from bytes e s turn s' h = h

    -- a step with the one source is a step with the other
    pub source_step_as : (from : Endpoint) (bytes : List ℕ) (e : EndState) (s : S) (turn : Turn)
        (s' : S) →
        DatagramStep sources sinks from bytes e (Source s) turn (Source s') →
        DatagramStep sources' sinks' from bytes e (Source (source_as s)) turn
        (Source (source_as s'))
    source_step_as from bytes e s turn s' h =
        record {
          decoded = h.decoded;
          says = h.says;
          acts = source_acts_as _ from bytes e s turn s' h.acts;
          again = h.again;
        }

    -- a source whose model is unchanged is seen as one whose model is unchanged
    pub source_keeps_as : (s s' : S) → KeepsFiles sources sinks (Source s) (Source s') →
        KeepsFiles sources' sinks' (Source (source_as s)) (Source (source_as s'))
    source_keeps_as s s' h =
        record {
          left = rw (source_models.models s, source_models.models s') h.left;
          fails = λ f want.
              (source_models.must s' want).1 (h.fails (λ w. (source_models.must s w).0 (f w)) want);
          gave = source_models.gives s s' [] h.gave;
        }

  -- ---- a sink, whatever the sources are
  module _ (sink_as : K → L) (holds : K → Type 0)
      (sink_models : SinksModel sink_as holds sinks sinks') where
    appended_as : (bytes : List ℕ) (k k' : K) (answer : Result Done StoreFault) → holds k →
        Appended sinks bytes k k' answer →
        Appended sinks' bytes (sink_as k) (sink_as k') answer × holds k'
    appended_as [] k k' answer p h = ((h.0, ap sink_as h.1), subst holds (sym h.1) p)
    appended_as (b ∷ bytes) k k' answer p h = (
      (
        rw (sink_models.models k, sink_models.models k') h.0,
        faults answer _ _ (λ fault. sink_models.appends k (b ∷ bytes) fault p) h.1,
        sink_models.leaves k k' false p h.2,
        sink_models.after_append k k' (b ∷ bytes) _ p h.3,
      ),
      sink_models.keeps k k' p h.2,
    )

    committed_as : (terms : Terms) (number : ℕ) (from : Endpoint) (e : EndState) (k : K)
        (turn : Turn) (k' : K) → holds k →
        Committed sinks terms number from e k turn k' →
        Committed sinks' terms number from e (sink_as k) turn (sink_as k')
    committed_as terms number from e k turn k' p h =
        record {
          answer = h.answer;
          commits = rw (sink_models.models k, sink_models.models k') h.commits;
          refused = faults h.answer _ _ (λ fault. sink_models.commits k fault p) h.refused;
          leaves = sink_models.leaves k k' _ p h.leaves;
          effect = sink_models.after_commit k k' _ p h.effect;
          answers = h.answers;
        }

    goes_on_as : (terms : Terms) (number : ℕ) (from : Endpoint) (e : EndState) (last : Bool)
        (after : List ℕ) (k : K) (answer : Result Done StoreFault) (turn : Turn) (k' : K) →
        holds k →
        GoesOn sinks terms number from e last after k answer turn k' →
        GoesOn sinks' terms number from e last after (sink_as k) answer turn (sink_as k')
    goes_on_as terms number from e true after k (Err fault) turn k' p h = (h.0, ap sink_as h.1)
    goes_on_as terms number from e false after k (Err fault) turn k' p h = (h.0, ap sink_as h.1)
    goes_on_as terms number from e true after k (Ok done) turn k' p h =
        committed_as terms number from _ k turn k' p h
    goes_on_as terms number from e false after k (Ok done) turn k' p h = (h.0, ap sink_as h.1)

    stores_as : (terms : Terms) (number : ℕ) (from : Endpoint) (piece : List ℕ) (e : EndState)
        (k : K) (turn : Turn) (k' : K) → holds k →
        Stores sinks terms number from piece e k turn k' →
        Stores sinks' terms number from piece e (sink_as k) turn (sink_as k')
    stores_as terms number from piece e k turn k' p h =
        let appended = appended_as h.bytes k h.mid h.answer p h.appended in
        record {
          bytes = h.bytes;
          after = h.after;
          mid = sink_as h.mid;
          answer = h.answer;
          decoded = h.decoded;
          appended = appended.0;
          memory = h.memory;
          rest = goes_on_as terms number from e _ h.after h.mid h.answer turn k' appended.1 h.rest;
        }

    sink_acts_as : (action : Action) (from : Endpoint) (bytes : List ℕ) (e : EndState) (k : K)
        (turn : Turn) (k' : K) → holds k →
        Acts sources sinks action from bytes e (Sink k) turn (Sink k') →
        Acts sources' sinks' action from bytes e (Sink (sink_as k)) turn (Sink (sink_as k'))
    sink_acts_as (Respond response) from bytes e k turn k' p h =
        (h.0, ap (λ (f : Files S K). Sink (sink_as (sink_or k f))) h.1)
    sink_acts_as (Send terms number) from bytes e k turn k' p h = h
    sink_acts_as (Store terms number) from bytes e k turn k' p h =
        (h.0, h.1, stores_as terms number from h.0 e k turn k' p h.2)

    -- a step with the one sink is a step with the other
    pub sink_step_as : (from : Endpoint) (bytes : List ℕ) (e : EndState) (k : K) (turn : Turn)
        (k' : K) → holds k →
        DatagramStep sources sinks from bytes e (Sink k) turn (Sink k') →
        DatagramStep sources' sinks' from bytes e (Sink (sink_as k)) turn (Sink (sink_as k'))
    sink_step_as from bytes e k turn k' p h =
        record {
          decoded = h.decoded;
          says = h.says;
          acts = sink_acts_as _ from bytes e k turn k' p h.acts;
          again = h.again;
        }

    -- a sink whose model is unchanged is seen as one whose model is unchanged
    pub sink_keeps_as : (k k' : K) → holds k → KeepsFiles sources sinks (Sink k) (Sink k') →
        KeepsFiles sources' sinks' (Sink (sink_as k)) (Sink (sink_as k'))
    sink_keeps_as k k' p h =
        record {
          holding = rw (sink_models.models k, sink_models.models k') h.holding;
          leaves = sink_models.leaves k k' false p h.leaves;
        }

  -- ---- files of either kind
  module _ (source_as : S → T) (sink_as : K → L) (holds : K → Type 0)
      (source_models : SourcesModel source_as sources sources')
      (sink_models : SinksModel sink_as holds sinks sinks') where
    -- an action with the one is an action with the other
    pub acts_as : (action : Action) (from : Endpoint) (bytes : List ℕ) (e : EndState)
        (files : Files S K) (turn : Turn) (files' : Files S K) → OfSink holds files →
        Acts sources sinks action from bytes e files turn files' →
        Acts sources' sinks' action from bytes e (seen_as source_as sink_as files) turn
        (seen_as source_as sink_as files')
    acts_as action from bytes e (Source s) turn (Source s') p h =
        source_acts_as source_as source_models action from bytes e s turn s' h
    acts_as action from bytes e (Sink k) turn (Sink k') p h =
        sink_acts_as sink_as holds sink_models action from bytes e k turn k' p h
    acts_as (Respond response) from bytes e (Source s) turn (Sink k') p h =
        (h.0, ap (seen_as source_as sink_as) h.1)
    acts_as (Respond response) from bytes e (Sink k) turn (Source s') p h =
        (h.0, ap (seen_as source_as sink_as) h.1)
    acts_as (Send terms number) from bytes e (Source s) turn (Sink k') p h = h
    acts_as (Send terms number) from bytes e (Sink k) turn (Source s') p h = h
    acts_as (Store terms number) from bytes e (Source s) turn (Sink k') p h = h
    acts_as (Store terms number) from bytes e (Sink k) turn (Source s') p h = h

    -- a step with the one is a step with the other
    pub step_as : (from : Endpoint) (bytes : List ℕ) (e : EndState) (files : Files S K)
        (turn : Turn) (files' : Files S K) → OfSink holds files →
        DatagramStep sources sinks from bytes e files turn files' →
        DatagramStep sources' sinks' from bytes e (seen_as source_as sink_as files) turn
        (seen_as source_as sink_as files')
    step_as from bytes e files turn files' p h =
        record {
          decoded = h.decoded;
          says = h.says;
          acts = acts_as _ from bytes e files turn files' p h.acts;
          again = h.again;
        }
