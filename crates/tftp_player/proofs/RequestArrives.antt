-- A client's request arrives at the port of its server, which accepts it: the transfer completes.
-- For StraightOpenings and RecoveringRequests.
use Rattle.tftp_player.proofs.Common.{◌≡◌, ℕ, ◌+◌, ◌*◌, ◌-◌, ◌<◌, Bool, false, List, [], ◌∷◌, ◌++◌, length, Some, refl}
use Rattle.tftp_player.proofs.Common.{sym, ap, ◌∙◌, subst, arith, rules, slice_get, IsAccepted, read_adds, write_adds}
use Rattle.tftp_player.proofs.Common.{Oack, Data, Ack, Mode, Packet, Spells, size, agreed_options, agreement, Asked}
use Rattle.tftp_player.proofs.Common.{Known, DEFAULT_BLOCK, block, block_count, Fits, wire_text, Waiting, Receiving}
use Rattle.tftp_player.proofs.Common.{Terms, oack_bytes, ack_bytes, data_bytes, default_terms, agreed_terms}
use Rattle.tftp_player.proofs.Common.{accept_action, begin_action, begin_with_action, writer_action, Service, Sends}
use Rattle.tftp_player.proofs.Common.{Takes, request_port, Endpoint, OpenEnd, peer_of, answer_granted}
use Rattle.tftp_player.proofs.Common.{slice_get-push_old, slice_get-push_new, spells_own, own_oack, taken_oack}
use Rattle.tftp_player.proofs.Common.{agreed_size, sending_end, receiving_end, TakesPeer, WorldState, WorldEnd}
use Rattle.tftp_player.proofs.Common.{Open_end, datagram, file_at, OpeningStep, ServiceStep, TakesAnswer}
use Rattle.std.proofs.Common.{◌^◌}
use Rattle.tftp_negotiate.specs.declared.known.Kind.TheVariants as kinds
use Rattle.tftp_player.proofs.AnsweringEnds.{Meeting, sides, kept_y}
use Rattle.tftp_player.proofs.RecoveringAnswers.{by_data, by_oack, sends_y, writes}
use Rattle.tftp_player.proofs.RunsLeft.{IsWilling, IsLeft, GoesOn, Reaches, walks}
use Rattle.tftp_player.proofs.SentAgain.{data_short}
use Rattle.tftp_player.proofs.StraightPort.{HasOpened, accepted_answers, has_opened, port_comes}
use Rattle.tftp_player.proofs.StraightRuns.{IsReady, ready_next}
use Rattle.tftp_player.proofs.WorldFacts.{mode_same, spoken}
use Rattle.tftp_player.proofs.WorldKeeps.{answered_values}
use Rattle.tftp_player.proofs.Changes.{contains_at}

-- the request of a client that waits is the only datagram to be delivered, and the port accepts it
pub record Asks (w : WorldState) (k i : ℕ) (c : OpenEnd) (asked : Asked) (limit : ℕ) (accepts : Service) : Type 0 where
  pub ready : IsReady w i (datagram c.address request_port c.state.position.last_sent)
  pub client_at : slice_get w.ends k ≡ Some (Open_end c)
  pub waits : c.state.position.phase ≡ Waiting asked limit
  pub accepted : IsAccepted w c accepts

-- ---- the port opens an end
module _ {w new : WorldState} {k i : ℕ} {c : OpenEnd} {asked : Asked} {limit : ℕ} {accepts : Service}
    (asks : Asks w k i c asked limit accepts) (reads : Bool) (g : GoesOn reads w i new) where
  comes : ServiceStep accepts w c.address c.state.position.last_sent g.report g.mid
  comes = port_comes w g.mid i c g.report accepts asks.ready.ok.ports asks.accepted asks.ready.newest g.step

  module _ (x : OpenEnd) (peer_is : peer_of x.state.position.phase ≡ Some c.address)
      (to_is : x.state.position.last_sent_to ≡ c.address) (opens : OpeningStep w x g.report g.mid) where
    opened : HasOpened w g.mid x
    opened = has_opened w g.mid x g.report opens

    offered : IsReady g.mid (i + 1) (datagram x.address c.address x.state.position.last_sent)
    offered =
        ready_next w _ i _ _ _ asks.ready g.step (opened.sent ∙ ap (λ (p : Endpoint). w.sent ++ datagram x.address p
        x.state.position.last_sent ∷ []) to_is)

    -- which is for the client that waits
    abbrev meets : Meeting
    meets = record {
      w = g.mid;
      ok = offered.ok;
      one = length w.ends;
      other = k;
      x = x;
      y = c;
      asked = asked;
      limit = limit;
      server_at =
          ap (λ (xs : List WorldEnd). slice_get xs (length w.ends)) opened.ends
          ∙ slice_get-push_new w.ends (Open_end x);
      client_at =
          ap (λ (xs : List WorldEnd). slice_get xs k) opened.ends
          ∙ slice_get-push_old w.ends k (Open_end x) (Open_end c) asks.client_at;
      to_client = peer_is;
      waits = asks.waits;
    }

-- ---- of a read
module _ (w new : WorldState) (k i : ℕ) (c : OpenEnd) (asked : Asked) (limit : ℕ) (path file : List ℕ) (mode : Mode)
    (measured : ℕ) (reads : Bool) (willing : IsWilling reads c) (left : IsLeft reads w i new) where
  abbrev text : List ℕ
  text = wire_text mode file

  module _ (agreed : List Known) (asks : Asks w k i c asked limit (Sends path mode measured agreed))
      (there : file_at w.files path ≡ Some file) where
    abbrev server : OpenEnd
    server = sending_end w c.address c.state.position.last_sent mode path file agreed

    -- it sends the file
    sends : (g : GoesOn reads w i new) → OpeningStep w server g.report g.mid
    sends g =
        let p = comes asks reads g in
        search rules

  plainly : (asks : Asks w k i c asked limit (Sends path mode measured [])) → file_at w.files path ≡ Some file →
      Reaches new (length w.ends) k i (length left.reports) (read_adds mode file [])
  plainly asks there =
      let x = server [] asks there in
      let piece = block text DEFAULT_BLOCK 1 in
      let count : 2 + 2 * (block_count text DEFAULT_BLOCK - 1) + 1 ≡ read_adds mode file [] = omega arith in
      subst (λ (n : ℕ). Reaches new (length w.ends) k i (length left.reports) n) count (walks reads w new (length
      w.ends) k i (2 + 2 * (block_count text DEFAULT_BLOCK - 1)) asks.ready.count left (λ g.
      let opens = sends [] asks there g in
      let at = offered asks reads g x refl refl opens in
      let said =
      spoken g.mid at.ok x.address c.address (data_bytes 1 piece) (contains_at g.mid.sent (i + 1) (datagram x.address
      c.address (data_bytes 1 piece)) at.newest) in
      let spelled = spells_own (Data 1 piece) (λ e. omega (arith, e), omega arith, data_short 1 piece said.0 said.1) in
      by_data (meets asks reads g x refl refl opens) new (i + 1) (data_bytes 1 piece) at (default_terms c.address) 1
      refl reads willing g.left 1 piece spelled))

  by_options : (known : Known) (others : List Known)
      (asks : Asks w k i c asked limit (Sends path mode measured (known ∷ others))) →
      file_at w.files path ≡ Some file → TakesAnswer asked kinds.Read mode limit (known ∷ others) →
      Reaches new (length w.ends) k i (length left.reports) (read_adds mode file (known ∷ others))
  by_options known others asks there answered =
      let agreed = known ∷ others in
      let x = server agreed asks there in
      let max = asks.ready.ok.max_block in
      let answers = accepted_answers w c (Sends path mode measured agreed) asks.accepted in
      let agreeable = answered_values kinds.Read mode measured w.limits answers.0 agreed max answers.1 in
      let sizes = agreed_size agreed agreeable in
      let counted : measured < 2 ^ 64 = let few = answers.2 in let small = sizes.1 in omega (arith, few, small) in
      let spelled : Spells (Oack (agreed_options agreed)) (oack_bytes agreed) =
      spells_own (Oack (agreed_options agreed)) ((answer_granted answers.0 kinds.Read mode measured w.limits agreed
      counted max answers.1).oack (λ e. cc)) in
      let blocks = block_count text (size agreed) in
      let count : 2 + 2 * (blocks - 0) + 1 ≡ read_adds mode file agreed = omega arith in
      subst (λ (n : ℕ). Reaches new (length w.ends) k i (length left.reports) n) count (walks reads w new (length
      w.ends) k i (2 + 2 * (blocks - 0)) asks.ready.count left (λ g.
      let opens = sends agreed asks there g in
      let same : c.state.role.mode ≡ x.state.role.mode =
      mode_same (sides (meets asks reads g x refl refl opens)) in
      let takes : TakesPeer (accept_action x.address (agreement asked kinds.Read c.state.role.mode (agreed_options
      agreed) limit)) = search rules in
      by_oack (meets asks reads g x refl refl opens) new (i + 1) (oack_bytes agreed)
      (offered asks reads g x refl refl opens) (agreed_terms c.address agreed) 0 refl reads willing g.left
      (agreed_options agreed) spelled takes))

  -- it completes, with as many datagrams as a read without loss
  pub read_on : (agreed : List Known) → Asks w k i c asked limit (Sends path mode measured agreed) →
      file_at w.files path ≡ Some file → TakesAnswer asked kinds.Read mode limit agreed →
      Reaches new (length w.ends) k i (length left.reports) (read_adds mode file agreed)
  read_on [] asks there answered = plainly asks there
  read_on (known ∷ others) asks there answered = by_options known others asks there answered

-- ---- of a write
begins_now : (n : ℕ) (terms : Terms) → n < 65535 * terms.size → TakesPeer (begin_action n terms)
begins_now n terms few = search rules

module _ (w new : WorldState) (k i : ℕ) (c : OpenEnd) (asked : Asked) (limit : ℕ) (path : List ℕ) (mode : Mode)
    (left : IsLeft false w i new) where
  abbrev written : List ℕ
  written = wire_text mode c.file

  module _ (agreed : List Known) (asks : Asks w k i c asked limit (Takes path mode agreed)) where
    abbrev taker : OpenEnd
    taker = receiving_end w c.address c.state.position.last_sent mode path agreed

    -- the port has opened its end, which has sent these bytes
    module _ (g : GoesOn false w i new) (bytes : List ℕ) (rt : Terms)
        (sent : taker.state.position.last_sent ≡ bytes) (phase : taker.state.position.phase ≡ Receiving rt 0)
        (peer_is : peer_of taker.state.position.phase ≡ Some c.address)
        (to_is : taker.state.position.last_sent_to ≡ c.address) (mode_so : taker.state.role.mode ≡ mode) where
      abbrev opens : OpeningStep w taker g.report g.mid
      opens = comes asks false g

      abbrev both : Meeting
      both = meets asks false g taker peer_is to_is opens

      at : IsReady g.mid (i + 1) (datagram taker.address c.address bytes)
      at = rw (← sent) (offered asks false g taker peer_is to_is opens)

      mode_then : c.state.role.mode ≡ mode
      mode_then = mode_same (sides both) ∙ mode_so

      text_is : c.text ≡ written
      text_is = (both.ok.ends k (Open_end c) both.client_at).text ∙ ap (λ (q : Mode). wire_text q c.file) mode_then

      length_is : c.state.role.length ≡ length written
      length_is = (kept_y both).5 (sends_y both new (i + 1) bytes at rt 0 phase g.left) ∙ ap length text_is

      goes_on_by : (p : Packet) → Spells p bytes → rt.size ≡ size agreed →
          TakesPeer (writer_action c.state.role.mode asked limit c.state.role.length taker.address (Some p)) →
          Reaches new k (length w.ends) (i + 1) (length g.left.reports) (1 + 2 * block_count written (size agreed))
      goes_on_by p spelled same takes =
          subst (λ (n : ℕ). Reaches new k (length w.ends) (i + 1) (length g.left.reports) (1 + 2 * n))
          (ap (λ (t : List ℕ). block_count t rt.size) text_is ∙ ap (block_count written) same)
          (writes both new (i + 1) bytes at rt 0 phase g.left p spelled takes)

    -- the request arrives, and the port's answer
    writes_on : (rt : Terms) (bytes : List ℕ) → taker.state.position.last_sent ≡ bytes →
        taker.state.position.phase ≡ Receiving rt 0 → peer_of taker.state.position.phase ≡ Some c.address →
        taker.state.position.last_sent_to ≡ c.address → taker.state.role.mode ≡ mode → (p : Packet) → Spells p bytes →
        rt.size ≡ size agreed →
        ((n : ℕ) (q : Mode) → n ≡ length written → q ≡ mode →
        TakesPeer (writer_action q asked limit n taker.address (Some p))) →
        Reaches new k (length w.ends) i (length left.reports) (write_adds mode c.file agreed)
    writes_on rt bytes sent phase peer_is to_is mode_so p spelled same takes =
        let blocks = block_count written (size agreed) in
        let count : 1 + 2 * blocks + 1 ≡ write_adds mode c.file agreed = omega arith in
        rw (← count) (walks false w new k (length w.ends) i (1 + 2 * blocks) asks.ready.count left (λ g.
        goes_on_by g bytes rt sent phase peer_is to_is mode_so p spelled same (takes c.state.role.length
        c.state.role.mode (length_is g bytes rt sent phase peer_is to_is mode_so) (mode_then g bytes rt sent phase
        peer_is to_is mode_so))))

  plainly_written : Asks w k i c asked limit (Takes path mode []) → Fits written (size []) →
      Reaches new k (length w.ends) i (length left.reports) (write_adds mode c.file [])
  plainly_written asks fits =
      writes_on [] asks (default_terms c.address) (ack_bytes 0) refl refl refl refl refl (Ack 0)
      (spells_own (Ack 0) (omega arith)) refl
      (λ n q few is. begins_now n (default_terms (taker [] asks).address)
      (subst (λ (m : ℕ). m < 65535 * DEFAULT_BLOCK) (sym few) fits))

  written_by_options : (known : Known) (others : List Known)
      (asks : Asks w k i c asked limit (Takes path mode (known ∷ others))) →
      TakesAnswer asked kinds.Write mode limit (known ∷ others) → Fits written (size (known ∷ others)) →
      Reaches new k (length w.ends) i (length left.reports) (write_adds mode c.file (known ∷ others))
  written_by_options known others asks answered fits =
      let agreed = known ∷ others in
      let x = taker agreed asks in
      let max = asks.ready.ok.max_block in
      let answers = accepted_answers w c (Takes path mode agreed) asks.accepted in
      let agreeable = answered_values kinds.Write mode 0 w.limits answers.0 agreed max answers.1 in
      let spelled =
      spells_own (Oack (agreed_options agreed)) ((answer_granted answers.0 kinds.Write mode 0 w.limits agreed (omega
      arith) max answers.1).oack (λ e. cc)) in
      let taken = answered.0 in
      let same =
      sym (own_oack agreed agreeable) ∙ taken_oack asked kinds.Write mode (agreed_options agreed) limit taken
      answered.1 in
      writes_on agreed asks (agreed_terms c.address agreed) (oack_bytes agreed) refl refl refl refl refl (Oack
      (agreed_options agreed)) spelled refl (λ n q few is.
      let does = ap (λ (r : Mode). agreement asked kinds.Write r (agreed_options agreed) limit) is ∙ answered.1 in
      let fewer = subst (λ (m : ℕ). n < 65535 * m) same (subst (λ (m : ℕ). m < 65535 * size agreed) (sym few) fits) in
      subst TakesPeer (ap (begin_with_action x.address n) (sym does)) (begins_now n (agreed_terms x.address taken)
      fewer))

  -- it completes, with as many datagrams as a write without loss
  pub write_on : (agreed : List Known) → Asks w k i c asked limit (Takes path mode agreed) →
      TakesAnswer asked kinds.Write mode limit agreed → Fits written (size agreed) →
      Reaches new k (length w.ends) i (length left.reports) (write_adds mode c.file agreed)
  write_on [] asks answered fits = plainly_written asks fits
  write_on (known ∷ others) asks answered fits = written_by_options known others asks answered fits
