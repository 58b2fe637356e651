use Rattle.tftp_loop.proofs.Common.{[], ◌∷◌, ap, inl, inr, refl, ◌∙◌, line_text, Printed, Start, at_start, state_of}
use Rattle.tftp_lines.specs.declared.printed.Printed.TheVariants.{Listening}
use Rattle.tftp_loop.specs.WholeRun.{listening}
use Rattle.tftp_loop.proofs.LoopRuns.{reserved_state}
use Rattle.tftp_loop.proofs.RunLemmas.{onward, idle}
use Rattle.tftp_loop.proofs.Receipts.{ends_by, starts_few, starts_settled}
use Rattle.tftp_loop.proofs.server_loop.ServerLoop.listen.Goals as goal

pub returns-then-is_err-clause-runs : goal.returns-then-is_err-clause-runs
returns-then-is_err-clause-runs g c =
    let sockets = c.args.self.now.sockets in
    let line = c.print_line.ensures.noted ∙ ap (λ e. Printed (line_text (Listening e)) ∷ g.N.Udp.log c.args.net.now)
    c.listening.ensures in
    record {
      reading = sockets.watch.reading;
      last =
          at_start c.args.config.now sockets.requests.port c.args.self.now.server sockets.watch.reading (listening
          sockets.requests.ip sockets.requests.port (g.N.Udp.log c.args.net.now));
      run = Start;
      noted = line;
      ends = inr (inr (record { is_output = refl; line = _; earlier = g.N.Udp.log c.args.net.now; last = refl }));
    }

pub returns-in_default-clause-runs : goal.returns-in_default-clause-runs
returns-in_default-clause-runs g c =
    let sockets = c.args.self.now.sockets in
    let line = c.print_line.ensures.noted ∙ ap (λ e. Printed (line_text (Listening e)) ∷ g.N.Udp.log c.args.net.now)
    c.listening.ensures in
    record {
      reading = sockets.watch.reading;
      last =
          at_start c.args.config.now sockets.requests.port c.args.self.now.server sockets.watch.reading (listening
          sockets.requests.ip sockets.requests.port (g.N.Udp.log c.args.net.now));
      run = Start;
      noted = rw (← line) c.out_of_memory.ensures.noted;
      ends = inl (refl, refl);
    }

pub take_rounds-served-requires-clause-settled : goal.take_rounds-served-requires-clause-settled
take_rounds-served-requires-clause-settled g c = starts_settled c.reserve.new.self (c.reserve.ensures.ports ∙ c.requires.none)

pub take_rounds-served-requires-clause-few : goal.take_rounds-served-requires-clause-few
take_rounds-served-requires-clause-few g c = starts_few c.reserve.new.self (c.reserve.ensures.ports ∙ c.requires.none)

pub take_rounds-served-requires-clause-first : goal.take_rounds-served-requires-clause-first
take_rounds-served-requires-clause-first g c =
    ap (λ s. s.sockets.has_received) c.reserve.ensures.rest ∙ ap (λ s. s.asked) (c.requires.state [] [])

pub returns-clause-runs : goal.returns-clause-runs
returns-clause-runs g c =
    let sockets = c.args.self.now.sockets in
    let line = c.print_line.ensures.noted ∙ ap (λ e. Printed (line_text (Listening e)) ∷ g.N.Udp.log c.args.net.now)
    c.listening.ensures in
    let request = c.as_mut_slice.result.now in
    let rounds = c.take_rounds-served in
    let printed = g.N.Udp.log c.print_line.new.self in
    let begins = reserved_state request c.args.self.now c.reserve.new.self printed c.reserve.ensures.rest
    c.reserve.ensures.ports ∙ (c.requires.state request printed ∙ ap (at_start c.args.config.now sockets.requests.port
    c.args.self.now.server sockets.watch.reading) line) in
    record {
      reading = sockets.watch.reading;
      last = state_of rounds.new.request rounds.new.self rounds.ensures.serves.served;
      run = onward (idle begins) rounds.ensures.serves.serves;
      noted = c.report_all.ensures.events ∙ rounds.ensures.serves.noted;
      ends = ends_by _ rounds.new.request _ _ _ rounds.ensures.end rounds.ensures.serves.fault;
    }
