-- A request that repeats that of no open transfer is answered by no end that is shown.
use Rattle.tftp_promises.proofs.Common.{List, ℕ, ◌≡◌, rules, sym, Endpoint, refl, [], ◌∙◌, SourceMeaning, Some, inl}
use Rattle.tftp_promises.proofs.Common.{StoreMeaning, inr, ◌∷◌, SinkMeaning, false, true, None, Programs, Bool, Option}
use Rattle.tftp_promises.proofs.Common.{true≢false, LoopState, TransferState, LoopStep, OpenEnd, Snapshot, at, Run}
use Rattle.tftp_promises.proofs.Common.{open_view, Then, Start, WirePacket, EndView, cases_Bool, is_client, Has_asked}
use Rattle.tftp_promises.proofs.Common.{IsAmong, HasClosed, is_closed, Removes, is_at, cond, nat_cmp}
use Rattle.tftp_server.specs.State.{AnyRepeats, IsRepeated, Repeats}
use Rattle.tftp_rules.specs.Shows.{IsAnswering, NoneAnswers}
use Rattle.tftp_promises.proofs.Invariant.{HasTransferBy, IsKept}
use Rattle.tftp_promises.proofs.KeptViews.{view_there}

-- ---- the transfers that a server holds
module _ {F D : Type 0} where
  any_by : (from : Endpoint) (packet : WirePacket) (tid : ℕ) (e : ℕ × TransferState F D)
      (held : List (ℕ × TransferState F D)) (t : TransferState F D) (b : Bool) → is_at (nat_cmp tid) e.0 ≡ b →
      cond b (Some e.1) (at tid held) ≡ Some t → Repeats from packet t →
      (at tid held ≡ Some t → AnyRepeats from packet held) → AnyRepeats from packet (e ∷ held)
  any_by from packet tid e held t b h found r rest = search rules

  -- one that is found is one of them
  pub any_at : (from : Endpoint) (packet : WirePacket) (tid : ℕ) (t : TransferState F D)
      (held : List (ℕ × TransferState F D)) → at tid held ≡ Some t → Repeats from packet t → AnyRepeats from packet held
  any_at from packet tid t [] found r = absurd (let f : None ≡ Some t = found in cc)
  any_at from packet tid t (e ∷ held) found r =
      any_by from packet tid e held t (is_at (nat_cmp tid) e.0) refl found r
      (λ rest. any_at from packet tid t held rest r)

  -- none of them repeats a request that is new
  pub none_repeats : (from : Endpoint) (packet : WirePacket) (held : List (ℕ × TransferState F D)) (repeated : Bool)
      (decoded : Option WirePacket) → IsRepeated repeated from decoded held →
      decoded ≡ Some packet → repeated ≡ false → AnyRepeats from packet held → ⊥
  none_repeats from packet held repeated decoded is same new any = search rules

-- a transfer that was removed had closed
module _ {S F D : Type 0} {stores : StoreMeaning S D} {sources : SourceMeaning F} where
  removed_closed : {old new : LoopState S F D} (does : LoopStep stores sources old new) (port : ℕ) (t : TransferState F D) →
      Removes does port t → is_closed t ≡ true
  removed_closed does port t removes = search rules

module _ {S F D G K : Type 0} {stores : StoreMeaning S D} {sources : SourceMeaning F} {inputs : SourceMeaning G}
    {outputs : SinkMeaning K} {programs : Programs stores sources inputs outputs} {pad : ℕ} {old : Snapshot programs}
    (kept : IsKept pad old) (from : Endpoint) (packet : WirePacket) where
  -- a transfer that was removed had closed
  has_closed : {first last : LoopState S F D} (run : Run (LoopStep stores sources) first last) (port : ℕ)
      (t : TransferState F D) (b : Endpoint) → HasClosed programs run port t b → is_closed t ≡ true
  has_closed Start port t b h = absurd h
  has_closed (Then run does) port t b (inl removes) = removed_closed does port t removes.0
  has_closed (Then run does) port t b (inr h) = has_closed run port t b h

  -- a client answers no request
  not_a_client : (x : OpenEnd) → is_client x.state.role.side ≡ true → IsAnswering (open_view x) from packet → ⊥
  not_a_client x client a = true≢false (sym client ∙ a.serving.0)

  -- a transfer that answers it is open, and repeats it
  repeats_it : (x : OpenEnd) (t : TransferState F D) → x.state ≡ t.end → x.request ≡ t.request →
      IsAnswering (open_view x) from packet → is_closed t ≡ false → Repeats from packet t
  repeats_it x t state request a still = search rules

  closed_answers_none : (x : OpenEnd) (t : TransferState F D) → x.state ≡ t.end →
      IsAnswering (open_view x) from packet → is_closed t ≡ true → ⊥
  closed_answers_none x t state a closed = search rules

  transfer_answers : (port : ℕ) (t : TransferState F D) (b : Endpoint) → HasTransferBy old port t b →
      (x : OpenEnd) → x.state ≡ t.end → x.request ≡ t.request → IsAnswering (open_view x) from packet →
      AnyRepeats from packet old.state.server.held
  transfer_answers port t b (inr removed) x state request a =
      absurd (closed_answers_none x t state a (has_closed old.run port t b removed))
  transfer_answers port t b (inl found) x state request a = elim (cases_Bool (is_closed t)) [
    | inl closed ↦ absurd (closed_answers_none x t state a closed)
    | inr still ↦ any_at from packet port t old.state.server.held found.0 (repeats_it x t state request a still)
  ]

  -- one that answers it repeats it
  answers_repeat : (view : EndView) → IsAmong kept.views view → IsAnswering view from packet →
      AnyRepeats from packet old.state.server.held
  answers_repeat view among a = elim (kept.only view among) [
    | inl h ↦
        let c = kept.clients h.k h.client (Has_asked h.s h.files h.noted h.moved) h.found h.is_stage in
        let is = view_there kept.shown c.viewed among (h.address ∙ sym c.address) in
        absurd (not_a_client c.end c.side (rw (← is) a))
    | inr h ↦
        let t = kept.transfers h.port h.transfer view.address h.is_transfer in
        let is = view_there kept.shown t.viewed among (sym t.address) in
        transfer_answers h.port h.transfer view.address h.is_transfer t.end t.state t.request (rw (← is) a)
  ]

  -- no end answers a request that is new
  pub none_answers : (repeated : Bool) (decoded : Option WirePacket) →
      IsRepeated repeated from decoded old.state.server.held → decoded ≡ Some packet → repeated ≡ false →
      NoneAnswers kept.views from packet
  none_answers repeated decoded is same new k view at a = search (rules, none_repeats, answers_repeat)
