-- What has moved at the place of a transfer after a step of the server, and after a run; and where a step leaves the
-- transfers.
use Rattle.std.proofs.Common.{rules as std_rules}
use Rattle.tftp_promises.proofs.Common.{List, ℕ, ◌≡◌, rules, sym, Endpoint, refl, [], SourceMeaning, subst}
use Rattle.tftp_promises.proofs.Common.{StoreMeaning, ◌∷◌, SinkMeaning, false, true, None, Programs, Bool, EndState}
use Rattle.tftp_promises.proofs.Common.{Contains, Files, Option, ◌≢◌, LoopState, length, TransferState, LoopStep}
use Rattle.tftp_promises.proofs.Common.{if◌then◌else◌, Run, Turn, State, Moved, Contains-push, IsPrefixOf, A_transfer}
use Rattle.tftp_promises.proofs.Common.{Receives_one, place_at, ClientDoes, Action, Came, PortStep, Request_answered}
use Rattle.tftp_promises.proofs.Common.{Answers, Acts, Respond, PortState, AnswersRequest, HandlesReceived, Loses}
use Rattle.tftp_promises.proofs.Common.{opened_ports, place, came_if, client_moves, ServesPort, acts_move, port_moves}
use Rattle.tftp_promises.proofs.Common.{same_self, is_same, opening_moves, opens_at, handling_moves, same_other}
use Rattle.tftp_loop.specs.Steps.{At_port, A_datagram}
use Rattle.tftp_promises.specs.Openings.{does_move}
use Rattle.tftp_promises.proofs.Places.{placed_by}
use Rattle.tftp_promises.proofs.Texts.{begins_itself, begins_more}

-- ---- what moved before begins what has moved after
module _ {S K : Type 0} (sources : SourceMeaning S) (sinks : SinkMeaning K) where
  acts_more : (action : Action) (from : Endpoint) (bytes : List ℕ) (e : EndState) (files : Files S K) (turn : Turn)
      (files' : Files S K) (acts : Acts sources sinks action from bytes e files turn files') (moved : Moved) →
      IsPrefixOf moved.bytes (acts_move sources sinks action from bytes e files turn files' acts moved).bytes
  acts_more (Respond response) from bytes e files turn files' acts moved = begins_itself moved.bytes
  acts_more action from bytes e files turn files' acts moved = begins_more moved.bytes _

module _ {G K : Type 0} {inputs : SourceMeaning G} {outputs : SinkMeaning K} {port : ℕ} where
  handling_more : {from : Endpoint} {bytes : List ℕ} {s next : State} {files files' : Files G K}
      (handles : HandlesReceived inputs outputs port from bytes s files next files') (moved : Moved) →
      IsPrefixOf moved.bytes (handling_moves handles moved).bytes
  handling_more {from = from} {bytes = bytes} {s = s} {files = files}
      (Answers {turn = turn} {files' = files'} still step) moved = search (std_rules, acts_more)
  handling_more (Loses lost keeps) moved = begins_itself moved.bytes

  -- of a client
  pub client_more : {s s' : State} {files files' : Files G K} (does : ClientDoes inputs outputs port s files s' files')
      (moved : Moved) → IsPrefixOf moved.bytes (client_moves does moved).bytes
  client_more (Receives_one may later handles) moved = handling_more handles moved
  client_more does moved = begins_itself moved.bytes

either_more : (b : Bool) (moved after : Moved) → IsPrefixOf moved.bytes after.bytes →
    IsPrefixOf moved.bytes (if b then after else moved).bytes
either_more true moved after h = h
either_more false moved after h = begins_itself moved.bytes

module _ {F D : Type 0} where
  opening_more : (o : Option (TransferState F D)) (moved : Moved) → o ≡ None →
      IsPrefixOf moved.bytes (opening_moves o moved).bytes
  opening_more o moved e = search rules

-- endpoints that are the same are one
one_endpoint : (a b : Endpoint) → is_same a b ≡ true → a ≡ b
one_endpoint a b e = search rules

module _ {S F D : Type 0} where
  -- a transfer that does not come here
  came_none : (here : Bool) (came : Came S F D) →
      (here ≡ true → (held : TransferState F D) (store : S) → came ≡ A_transfer held store → ⊥) →
      came_if here came ≡ None
  came_none here came n = search rules

module _ {S F D : Type 0} {stores : StoreMeaning S D} {sources : SourceMeaning F} where
  port_more : {now : ℕ} {old new : PortState S F D} (does : PortStep stores sources now old new) (moved : Moved) →
      IsPrefixOf moved.bytes (port_moves does moved).bytes
  port_more (A_datagram h) moved = search (std_rules, acts_more)
  port_more does moved = begins_itself moved.bytes

module _ {S F D G K : Type 0} {stores : StoreMeaning S D} {sources : SourceMeaning F} {inputs : SourceMeaning G}
    {outputs : SinkMeaning K} (programs : Programs stores sources inputs outputs) {first old new : LoopState S F D}
    (run : Run (LoopStep stores sources) first old) where
  -- of the server, at a place where it opens no transfer
  pub server_more : (a : Endpoint) (does : LoopStep stores sources old new) (moved : Moved) →
      opens_at programs a run does ≡ None → IsPrefixOf moved.bytes (does_move programs a run does moved).bytes
  server_more a (At_port serves) moved none =
      either_more (is_same (place_at programs serves.timer.port run) a) _ _ (port_more serves.does moved)
  server_more a (Request_answered answers) moved none = opening_more _ moved none
  server_more a does moved none = begins_itself moved.bytes

  answer_opens_none : (answers : AnswersRequest stores sources old new) (a : Endpoint) →
      (Contains (placed_by programs run (Request_answered answers)) a → ⊥) →
      opens_at programs a run (Request_answered answers) ≡ None
  answer_opens_none answers a n =
      let b = place programs (length (opened_ports run)) answers.from answers.tid in
      came_none (is_same b a) answers.steps.came (λ same held store came.
      let placed : placed_by programs run (Request_answered answers) ≡ b ∷ [] = search std_rules in
      n (subst (λ (ps : List Endpoint). Contains ps a) (sym placed) (subst (λ (e : Endpoint). Contains (b ∷ []) e)
      (one_endpoint b a same) (Contains-push [] b))))

  -- a place where a step opens none
  pub opens_none : (does : LoopStep stores sources old new) (a : Endpoint) →
      (Contains (placed_by programs run does) a → ⊥) → opens_at programs a run does ≡ None
  opens_none (Request_answered answers) a n = answer_opens_none answers a n
  opens_none does a n = refl

  -- ---- a step at which nothing moves at a place
  pub record MovesNone (does : LoopStep stores sources old new) (a : Endpoint) : Type 0 where
    pub opens : opens_at programs a run does ≡ None
    pub moves : (moved : Moved) → does_move programs a run does moved ≡ moved

  -- a step at the port of a transfer that is no datagram
  pub none_at_port : (serves : ServesPort stores sources old new) →
      ((moved : Moved) → port_moves serves.does moved ≡ moved) → (a : Endpoint) → MovesNone (At_port serves) a
  none_at_port serves quiet a = search rules

  -- one at another place
  pub none_beside : (serves : ServesPort stores sources old new) (a : Endpoint) →
      place_at programs serves.timer.port run ≢ a → MovesNone (At_port serves) a
  none_beside serves a n = search (rules, port_moves, same_other, place_at)

  -- a datagram at its own place
  pub moves_here : (serves : ServesPort stores sources old new) (a : Endpoint) →
      place_at programs serves.timer.port run ≡ a → (moved : Moved) →
      does_move programs a run (At_port serves) moved ≡ port_moves serves.does moved
  moves_here serves a here moved = search (rules, port_moves, same_self, place_at)

  -- a request that opens no transfer there
  pub none_answered : (answers : AnswersRequest stores sources old new) (a : Endpoint) →
      (Contains (placed_by programs run (Request_answered answers)) a → ⊥) → MovesNone (Request_answered answers) a
  none_answered answers a n = search (rules, answer_opens_none, opening_moves)
