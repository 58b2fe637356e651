-- Each field is what a call read. A search finds those that a wrong body may read by another name.
use Rattle.std.proofs.Common.{◌∙◌, Bool, ap, rules, sym}
use Rattle.tftp_daemon.specs.CommandLine.{backoff_of}
use Rattle.tftp_daemon.proofs.command_line.service.Goals as goal

pub returns-clause-names : goal.returns-clause-names
returns-clause-names c =
    record {
      root = c.in-Some.ensures.root;
      listen = c.in-Some.ensures.listen;
      others = c.requires.others;
      apart = search rules;
      ports = c.requires.ports;
      requests_only = search rules;
      per_client = search rules;
      limits = c.in-Some.ensures.limits;
      read_only = search rules;
      uploads = sym c.get_str.ensures;
      longest = search rules;
      length_memory = c.in-Some.ensures.length_memory;
      backoff = c.backoff.ensures ∙ ap (λ (on : Bool). backoff_of on) c.is_on-3.ensures;
      ending = c.in-Some.ensures.ending;
      drain = sym c.get_str-2.ensures;
      status = search rules;
      logs = c.is_on-4.ensures;
      log_times = search rules;
      instance = record { servers = c.requires.servers; server = search rules };
    }
