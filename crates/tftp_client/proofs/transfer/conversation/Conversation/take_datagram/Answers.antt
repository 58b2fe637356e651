-- A datagram: its step and its answer, or none.
use Rattle.tftp_client.proofs.Common.{◌∙◌, ap, refl, ℕ, false, List, take, sym, subst, state_of, State, Answers, Loses}
use Rattle.tftp_ends.specs.declared.record.Step.{Step}
use Rattle.tftp_client.specs.Converses.{HandlesAs, turned}
use Rattle.tftp_client.proofs.Conversing.{lost, not_refused, replies, state_is}
use Rattle.tftp_client.proofs.transfer.conversation.Conversation.take_datagram.Goals as goal

pub returns-in_default-clause-handles : goal.returns-in_default-clause-handles
returns-in_default-clause-handles g c =
    let port = c.args.self.now.socket.port in
    let s : State = state_of c.args.self.now (g.N.Udp.log c.args.net.now) in
    let handles : List ℕ → State → Type 0 = λ b t.
    HandlesAs g.S.Source.meaning g.K.Sink.meaning port c.args.from b s c.args.files.now t
    c.handle_datagram.new.files false in
    let At : State → Type 0 = λ t. handles (take c.args.count c.args.self.now.buffer.items) t in
    let whole = c.datagram_in-bytes.ensures ∙ ap (λ (b : List ℕ). take c.args.count b) c.as_slice.ensures.value in
    let Of : List ℕ → Type 0 = λ b. handles b s in
    subst At (state_is (sym c.in_default.ensures.err.0) refl refl refl refl)
    (subst Of whole (
      Loses (lost c.in_default.field-0 c.args.from c.datagram_in-bytes.result.now s.end c.in_default.ensures.closed
          c.in_default.ensures.memory) c.in_default.ensures.err.1,
      refl,
    ))

pub returns-clause-handles : goal.returns-clause-handles
returns-clause-handles g c =
    let port = c.args.self.now.socket.port in
    let s : State = state_of c.args.self.now (g.N.Udp.log c.args.net.now) in
    let handles : List ℕ → State → Type 0 = λ b t.
    HandlesAs g.S.Source.meaning g.K.Sink.meaning port c.args.from b s c.args.files.now t
    c.handle_datagram.new.files c.in-Ok.step.progress in
    let At : State → Type 0 = λ t. handles (take c.args.count c.args.self.now.buffer.items) t in
    let whole = c.datagram_in-bytes.ensures ∙ ap (λ (b : List ℕ). take c.args.count b) c.as_slice.ensures.value in
    let turn = c.in-Ok.ensures.steps.0 in
    let datagram = c.in-Ok.ensures.steps.1 in
    let lends = c.in-Ok.ensures.steps.2 in
    let says = c.in-Ok.ensures.steps.3 in
    let sent = replies port turn.reply c.reply-sent.ensures lends.goes (c.bytes_of.ensures ∙ lends.bytes) refl in
    let Of : List ℕ → Type 0 = λ b. handles b (turned port turn s) in
    subst At (sym (state_is lends.state refl refl refl sent))
    (subst Of whole (
      Answers (not_refused _ _ c.in-Ok.ensures.closed) datagram,
      ap (λ (t : Step). t.progress) says,
    ))
