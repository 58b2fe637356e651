-- A receiver's step over a value that contains a sink is its step over that sink.
use Rattle.tftp_c.proofs.Common.{ℕ, false, ap, sink_through, Endpoint, EndState, ReceiverStep, Turn}
use Rattle.std.specs.Prelude.{Bool, true, List, [], ◌∷◌, Result, Ok, Err}
use Rattle.tftp_file.specs.Sink.{SinkMeaning}
use Rattle.tftp_file.specs.declared.fault.StoreFault.{StoreFault}
use Rattle.tftp_ends.specs.declared.action.Action.{Action}
use Rattle.tftp_ends.specs.declared.action.Action.TheVariants.{Respond, Send, Store}
use Rattle.tftp_ends.specs.declared.phase.Terms.{Terms}
use Rattle.tftp_ends.specs.OneFile.{ReceiverActs}
use Rattle.tftp_ends.specs.Step.{Done, Appended, Committed, GoesOn, Stores, holding}

module _ {K L : Type 0} (sinks : SinkMeaning L) (seen : K → L) where
  abbrev outer : SinkMeaning K
  outer = sink_through sinks seen

  appended : (bytes : List ℕ) (k k' : K) (answer : Result Done StoreFault) →
      Appended outer bytes k k' answer →
      Appended sinks bytes (seen k) (seen k') answer
  appended [] k k' answer h = (h.0, ap seen h.1)
  appended (b ∷ bytes) k k' answer h = h

  module _ (terms : Terms) (number : ℕ) (from : Endpoint) (turn : Turn) where
    committed : (e : EndState) (k k' : K) →
        Committed outer terms number from e k turn k' →
        Committed sinks terms number from e (seen k) turn (seen k')
    committed e k k' h =
        record {
          answer = h.answer;
          commits = h.commits;
          refused = h.refused;
          leaves = h.leaves;
          effect = h.effect;
          answers = h.answers;
        }

    goes_on : (e : EndState) (last : Bool) (after : List ℕ) (k : K) (answer : Result Done StoreFault)
        (k' : K) →
        GoesOn outer terms number from e last after k answer turn k' →
        GoesOn sinks terms number from e last after (seen k) answer turn (seen k')
    goes_on e last after k (Err fault) k' h = (h.0, ap seen h.1)
    goes_on e true after k (Ok done) k' h = committed (holding after e) k k' h
    goes_on e false after k (Ok done) k' h = (h.0, ap seen h.1)

    stores : (piece : List ℕ) (e : EndState) (k k' : K) →
        Stores outer terms number from piece e k turn k' →
        Stores sinks terms number from piece e (seen k) turn (seen k')
    stores piece e k k' h =
        record {
          bytes = h.bytes;
          after = h.after;
          mid = seen h.mid;
          answer = h.answer;
          decoded = h.decoded;
          appended = appended h.bytes k h.mid h.answer h.appended;
          memory = h.memory;
          rest = goes_on e _ h.after h.mid h.answer k' h.rest;
        }

  module _ (from : Endpoint) (bytes : List ℕ) (e : EndState) (k : K) (turn : Turn) (k' : K) where
    acts : (action : Action) →
        ReceiverActs outer action from bytes e k turn k' →
        ReceiverActs sinks action from bytes e (seen k) turn (seen k')
    acts (Respond response) h = (h.0, ap seen h.1)
    acts (Send terms number) h = h
    acts (Store terms number) h = (h.0, h.1, stores terms number from turn h.0 e k k' h.2)

    pub seen_step :
        ReceiverStep outer from bytes e k turn k' →
        ReceiverStep sinks from bytes e (seen k) turn (seen k')
    seen_step h =
        record { decoded = h.decoded; says = h.says; acts = acts _ h.acts; again = h.again }
