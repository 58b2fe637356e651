-- What happens at all ports, call by call. For seven functions and four other files.
use Rattle.std.proofs.Common.{rules}
use Rattle.tftp_loop.proofs.Common.{◌≡◌, ◌≤◌, ◌<◌, ◌-◌, ℕ, false, List, map, length, Option, Some, None, IsSome, refl}
use Rattle.tftp_loop.proofs.Common.{sym, ap, subst, ◌∙◌, slice_set, slice_index_or, option_map, is_some, if◌then◌else◌}
use Rattle.tftp_loop.proofs.Common.{swap_remove, SourceMeaning, Record, StoreMeaning, Outcome, TransferState}
use Rattle.tftp_loop.proofs.Common.{ServerState, at, taken_of, without, Port, SocketEvent, TransferSocket, Run, Start}
use Rattle.tftp_loop.proofs.Common.{Then, Timer, PortState, LoopState, PortStep, LoopStep, WorksAtPort, port_state}
use Rattle.tftp_loop.proofs.Common.{Work, At_port, ServerLoop, state_of, timer_of, Work_by}
use Rattle.std.proofs.lemmas.Bool.{false≢true}
use Rattle.tftp_loop.specs.Steps.{Closes, watch_of}
use Rattle.tftp_loop.specs.LoopStates.{close_reported, Works}
use Rattle.tftp_loop.proofs.RunLemmas.{once, idle}
use Rattle.tftp_loop.proofs.PortRuns.{here}
use Rattle.tftp_loop.proofs.ListLemmas.{map_is, map_within, map_set, set_itself, set_again, set_is, set_within}

-- equal parts, equal states
pub same_state : {S F D : Type 0} (s t : LoopState S F D)
    → s.requests ≡ t.requests → s.range ≡ t.range → s.longest ≡ t.longest → s.backoff ≡ t.backoff
    → s.requests_only ≡ t.requests_only → s.per_client ≡ t.per_client → s.server ≡ t.server → s.pending ≡ t.pending
    → s.timers ≡ t.timers → watch_of s ≡ watch_of t → s.limit ≡ t.limit → s.woken ≡ t.woken → s.marked ≡ t.marked
    → s.asked ≡ t.asked → s.drain ≡ t.drain → s.left ≡ t.left → s.rounds ≡ t.rounds → s.events ≡ t.events → s ≡ t
same_state {S} {F} {D} s t a r o z v p b c d e l w f q n g h k = search rules

-- room that is reserved is no change of the state
pub reserved_state : {S F D : Type 0} (buffer : List ℕ) (old new : ServerLoop S F D) (events : List SocketEvent)
    → new ≡ record old { ports = new.ports; out = new.out } → new.ports.items ≡ old.ports.items
    → state_of buffer new events ≡ state_of buffer old events
reserved_state buffer old new events rest same =
    ap (λ (d : ServerLoop _ _ _). state_of buffer d events) rest
    ∙ ap (λ (items : List (Port TransferSocket)). record (state_of buffer old events) { timers = map timer_of items }) same

-- a transfer that was taken closed with an outcome
record IsTaken {F D : Type 0} (o : Option (TransferState F D)) (closed : Option Record) : Type 0 where
  pub taken : Record × Option D
  pub is_taken : taken_of o ≡ Some taken
  pub by_close : closed ≡ Some taken.0
  pub outcome : Outcome
  pub has_outcome : taken.0.outcome ≡ Some outcome

taken_so : {F D : Type 0} (o : Option (TransferState F D)) (closed : Option Record)
    → closed ≡ option_map (λ (t : Record × Option D). t.0) (taken_of o) → IsSome closed → IsTaken o closed
taken_so None closed found some = absurd (false≢true (sym (ap is_some found) ∙ some))
taken_so (Some held) closed found some = search rules

-- what was not taken stays
pub none_taken : {D : Type 0} (closed : Option Record) (o : Option (Record × Option D)) →
    closed ≡ option_map (λ (t : Record × Option D). t.0) o → is_some closed ≡ false → o ≡ None
none_taken closed o e h = search rules

module _ {S F D : Type 0} (meaning : StoreMeaning S D) (sources : SourceMeaning F) where
  -- steps of the loop one after another
  abbrev pub Runs : LoopState S F D → LoopState S F D → Type 0
  Runs = Run (Works meaning sources)

  -- work is a run
  pub runs_as : {s t : LoopState S F D} → Runs s t → Run (LoopStep meaning sources) s t
  runs_as Start = Start
  runs_as (Then run (Work_by does is)) = Then (runs_as run) does

  -- the state of all ports after that of one
  abbrev pub with_port : LoopState S F D → ℕ → PortState S F D → LoopState S F D
  with_port s index p = record s { server = p.server; timers = slice_set s.timers index p.timer; events = p.events }

  -- what happens at one port happens at all
  pub lifted : (s : LoopState S F D) (index : ℕ) (timer : Timer) (p : PortState S F D) → index < length s.timers →
      timer ≡ slice_index_or s.timers index timer
      → Run (PortStep meaning sources s.now) (port_state s timer) p → Runs s (with_port s index p)
  lifted s index timer p within is Start =
      idle (ap (λ (ts : List Timer). record s { timers = ts }) (set_itself s.timers index timer is))
  lifted s index timer p within is (Then {middle} q d) =
      Then (lifted s index timer middle within is q) (Work_by (At_port (search (
        set_within s.timers index index
            middle.timer within,
        set_is s.timers index middle.timer,
        ap (λ (ts : List Timer). record s {
          server = p.server;
          timers = ts;
          events = p.events;
        }) (sym (set_again s.timers index middle.timer p.timer)),
      ))) tt)

  -- the same, for a list of ports
  pub at_index : (s : LoopState S F D) (ports : List (Port TransferSocket)) (index : ℕ)
      (port port' : Port TransferSocket) (server : ServerState S F D) (es : List SocketEvent)
      → s.timers ≡ map timer_of ports → index < length ports → port ≡ slice_index_or ports index port
      → Run (PortStep meaning sources s.now) (here meaning sources s.now s.server (timer_of port) s.events)
      (here meaning sources s.now server (timer_of port') es)
      → Runs s (record s { server = server; timers = map timer_of (slice_set ports index port'); events = es })
  at_index s ports index port port' server es listed within is r =
      rw (map_set timer_of ports index port', ← listed) (lifted s _ _ _ (rw listed (map_within timer_of ports index
      within)) (rw listed (map_is timer_of ports index port is)) r)

  -- the file of a transfer worked
  pub works : (s : LoopState S F D) (index : ℕ) (timer : Timer) (server : ServerState S F D) → index < length s.timers →
      timer ≡ slice_index_or s.timers index timer
      → WorksAtPort meaning sources timer.port s.server server → Runs s (record s { server = server })
  works s index timer server within is w =
      subst (λ ts. Runs s (record s { server = server; timers = ts })) (set_itself _ _ _ is) (lifted s _ _ _ within is
      (once (Work (record { works = w; timer = refl; events = refl }))))

  -- a transfer that closed is taken out of the table, with its timer
  pub closes : (s : LoopState S F D) (index : ℕ) (timer : Timer) (tid : ℕ) (closed : Option Record)
      (server : ServerState S F D) (es : List SocketEvent)
      → 1 ≤ s.left → index < length s.timers → timer ≡ slice_index_or s.timers index timer → tid ≡ timer.port
      → closed ≡ option_map (λ (t : Record × Option D). t.0) (taken_of (at tid s.server.held)) → IsSome closed
      → server.held ≡ (if is_some closed then without tid s.server.held else s.server.held)
      → server ≡ record s.server { held = server.held } → es ≡ close_reported timer.port timer.peer closed s.events
      →
      (closes : Closes meaning sources s
      (record s { server = server; timers = swap_remove s.timers index timer; left = s.left - 1; events = es }))
      × (closes.index ≡ index)
  closes s index timer tid closed server es some_left within is same found some held rest printed =
      let t = taken_so (at tid s.server.held) closed found some in
      let removed : server.held ≡ without timer.port s.server.held = rw (t.by_close, same) at held in
      let line = rw (t.by_close, t.has_outcome) at printed in (
        record {
          index = index;
          timer = timer;
          within = within;
          is_timer = is;
          taken = t.taken;
          is_taken = rw (← same) t.is_taken;
          outcome = t.outcome;
          has_outcome = t.has_outcome;
          left = some_left;
          is = search rules;
        },
        refl,
      )
