-- A turn blames nobody if its action does not, whatever it means to blame a peer by an outcome.
-- For BlamelessActions, and for the laws on blame of worlds (tftp_player) and of programs (tftp_promises).
use Rattle.tftp_rules.proofs.Common.{◌≡◌, List, true, ℕ, Some, length, ◌+◌, None, ◌*◌, Option, drop, std_arith}
use Rattle.tftp_rules.proofs.Common.{std_common_steps, ◌≢◌, option_map, Holding, SinkMeaning, SourceMeaning, StoreFault}
use Rattle.tftp_rules.proofs.Common.{Files, is_sender, terms_of, outcome_of, Position, Turn, Acts, Action, Respond}
use Rattle.tftp_rules.proofs.Common.{Send, Store, Response, Close, Refuse, Complete, Outcome, Terms, Endpoint, Network}
use Rattle.tftp_rules.proofs.Common.{Elsewhere, OpenEnd, files_of}
use Rattle.tftp_ends.specs.declared.outcome.Outcome.TheVariants as outcomes

-- which outcomes blame which peer: these blame none
pub record IsCalm (Blames : Endpoint → Outcome → Type 0) : Type 0 where
  pub complete : (p : Endpoint) → Blames p outcomes.Complete → ⊥
  pub timed_out : (p : Endpoint) → Blames p outcomes.TimedOut → ⊥
  pub heard : (p : Endpoint) (code : ℕ) → Blames p (outcomes.PeerError code) → ⊥
  pub refused : (p : Endpoint) → Blames p outcomes.StoreFault → ⊥

-- the source of a sender has the block of this number
pub record CanSend (x : OpenEnd) (terms : Terms) (number : ℕ) : Type 0 where
  pub before : ℕ
  pub next : number ≡ before + 1
  pub sender : is_sender x.state.role.side ≡ true
  pub measured : x.state.role.length ≡ length x.text
  pub left : x.left ≡ drop (before * terms.size) x.text

module _ (network : Network) (Blames : Endpoint → Outcome → Type 0) where
  -- an end with these terms may close so, unless its peer is ours and it blames that
  abbrev pub Allowed : Option Terms → Outcome → Type 0
  Allowed terms o =
      (p : Endpoint) → option_map (λ (t : Terms). t.peer) terms ≡ Some p → network.host_of p ≢ Elsewhere →
      Blames p o → ⊥

  -- an end without a peer blames none
  pub no_terms : (o : Outcome) → Allowed None o
  no_terms o p e own b = absurd (let f : None ≡ Some p = e in cc)

  -- ---- no action of an end with these terms blames
  -- a response closes the end by no outcome that blames
  abbrev pub FineResponse : Option Terms → Response → Type 0
  FineResponse known (Close outcome) = Allowed known outcome
  FineResponse known (Refuse terms reply outcome) = Allowed terms outcome
  FineResponse known response = Unit {0}

  -- an action that blames no such peer
  abbrev pub Fine : OpenEnd → Option Terms → Action → Type 0
  Fine x known (Respond response) = FineResponse known response
  Fine x known (Send terms number) = CanSend x terms number
  Fine x known (Store terms number) = Unit {0}

  -- ---- nor does a turn
  -- a position has no outcome that blames
  abbrev pub Blameless : Position → Type 0
  Blameless position = (o : Outcome) → outcome_of position.phase ≡ Some o → Allowed (terms_of position.phase) o

  module _ (calm : IsCalm Blames) where
    module _ (sources : SourceMeaning (List ℕ)) (known : (text : List ℕ) → sources.left text ≡ Some text)
        (sinks : SinkMeaning Holding) (from : Endpoint) where
      -- ---- an end whose source may fail, if that blames nobody
      module _ (x : OpenEnd) (faults : is_sender x.state.role.side ≡ true → (left : List ℕ) (want : ℕ) →
          sources.may_fail left want → (p : Endpoint) → Blames p outcomes.SourceFault → ⊥) where
        -- a turn blames nobody if its action does not
        pub acts_blameless : (bytes : List ℕ) (action : Action) (files' : Files (List ℕ) Holding) (turn : Turn) →
            Fine x (terms_of x.state.position.phase) action → outcome_of x.state.position.phase ≡ None →
            Acts sources sinks action from bytes x.state (files_of x) turn files' → Blameless turn.position
        acts_blameless bytes action files' turn s still a = grind (std_arith, std_common_steps)
