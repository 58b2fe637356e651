-- What is known of the file of an end after a step of the end over any files, by what the finished run moved; and where
-- it makes none.
use Rattle.std.proofs.Common.{rules as std_rules}
use Rattle.tftp_promises.proofs.Common.{List, ℕ, ◌≡◌, Endpoint, refl, SourceMeaning, false, true, None, Files}
use Rattle.tftp_promises.proofs.Common.{outcome_of, OpenEnd, is_sender, Turn, Moved, Sink, Source, IsPrefixOf}
use Rattle.tftp_promises.proofs.Common.{DatagramStep, end_after, datagram_action, GaveSince, Network, EndKept, Holding}
use Rattle.tftp_promises.proofs.Common.{known_sink, known_source, files_of, AreSame, step_moves, SinkMeaning}
use Rattle.tftp_promises.proofs.Common.{after_turn, holding_of}
use Rattle.tftp_promises.proofs.MovedStores.{Fate, sink_moves}
use Rattle.tftp_promises.proofs.MovedSends.{source_moves}
use Rattle.tftp_promises.proofs.Invariant.{FileSo}
use Rattle.tftp_promises.proofs.Texts.{pad_to}

module _ {S K : Type 0} (Given : S → OpenEnd → Moved → Type 0) (Taken : K → OpenEnd → Moved → Type 0) (x : OpenEnd)
    (moved : Moved) where
  -- with other files, after a change that leaves what is known
  pub file_on : {P : S → S → Type 0} {Q : K → K → Type 0} →
      ((s s' : S) → P s s' → Given s x moved → Given s' x moved) →
      ((k k' : K) → Q k k' → Taken k x moved → Taken k' x moved) → (files files' : Files S K) →
      AreSame P Q files files' → FileSo Given Taken files x moved → FileSo Given Taken files' x moved
  file_on gives takes files files' same h = search std_rules

-- after a turn that leaves its file
module _ (x : OpenEnd) (turn : Turn)
    (still : outcome_of turn.position.phase ≡ None → outcome_of x.state.position.phase ≡ None) where
  -- a receiver holds what it held
  pub held_same : is_sender x.state.role.side ≡ false → holding_of (end_after x turn (files_of x)) ≡ holding_of x
  held_same receiver = rw (receiver) refl

  pub file_turned : {S K : Type 0} (Given : S → OpenEnd → Moved → Type 0) (Taken : K → OpenEnd → Moved → Type 0)
      (files : Files S K) (moved : Moved) →
      ((s : S) → Given s x moved → Given s (end_after x turn (files_of x)) moved) →
      ((k : K) → is_sender x.state.role.side ≡ false → Taken k x moved →
      Taken k (end_after x turn (files_of x)) moved) → FileSo Given Taken files x moved →
      FileSo Given Taken files (end_after x turn (files_of x)) moved
  file_turned Given Taken files moved gives takes h = search std_rules

-- a step over what moves, and what is known of the file after it
pub record MovesOver {S K : Type 0} (Given : S → OpenEnd → Moved → Type 0) (Taken : K → OpenEnd → Moved → Type 0)
    (x : OpenEnd) (from : Endpoint) (bytes : List ℕ) (turn : Turn) (files' : Files S K) (now : Moved) : Type 0 where
  pub content : Files (List ℕ) Holding
  pub steps : DatagramStep known_source known_sink from bytes x.state (files_of x) turn content
  pub file : FileSo Given Taken files' (end_after x turn content) now

module _ {S K L : Type 0} (sources : SourceMeaning S) (sinks : SinkMeaning K) (Given : S → OpenEnd → Moved → Type 0)
    (Taken : L → OpenEnd → Moved → Type 0) (x : OpenEnd) (network : Network) (kept : EndKept network x)
    (still : outcome_of x.state.position.phase ≡ None) (from : Endpoint) (bytes : List ℕ) (turn : Turn)
    (moved : Moved) where
  -- of a sender
  pub source_over : (s s' : S) (pad : ℕ) (all : List ℕ) →
      (is_sender x.state.role.side ≡ true → x.text ≡ pad_to pad x.state.role.length all) →
      (step : DatagramStep sources sinks from bytes x.state (Source s) turn (Source s')) →
      IsPrefixOf (step_moves sources sinks from bytes x.state (Source s) turn (Source s') step moved).bytes all →
      ((content : Files (List ℕ) Holding) (now : Moved) → ((first : S) →
      GaveSince sources first x.state moved.bytes s →
      GaveSince sources first (after_turn x.state turn) now.bytes s') → Given s x moved →
      Given s' (end_after x turn content) now) → FileSo Given Taken (Source s) x moved →
      MovesOver Given Taken x from bytes turn (Source s')
      (step_moves sources sinks from bytes x.state (Source s) turn (Source s') step moved)
  source_over s s' pad all text step told gives h =
      let m =
      source_moves sources sinks x from s s' turn moved h.1 still pad all (text h.0) network kept h.0 bytes step told in
      record {
        content = Source m.left;
        steps = rw (h.0) m.steps;
        file = (h.0, m.gave, gives (Source m.left) _ m.given h.2);
      }

  -- of a receiver
  pub sink_over : (k k' : K) (l l' : L) (step : DatagramStep sources sinks from bytes x.state (Sink k) turn (Sink k')) →
      ((after : Holding) (now : Moved) → is_sender x.state.role.side ≡ false →
      Fate sinks turn x.committed k k' (datagram_action x.state from bytes step.decoded) moved.bytes now.bytes
      after.committed → Taken l x moved → Taken l' (end_after x turn (Sink after)) now) →
      FileSo Given Taken (Sink l) x moved → MovesOver Given Taken x from bytes turn (Sink l')
      (step_moves sources sinks from bytes x.state (Sink k) turn (Sink k') step moved)
  sink_over k k' l l' step takes h =
      let m = sink_moves sources sinks from turn x moved h.1 k k' bytes step in
      search std_rules
