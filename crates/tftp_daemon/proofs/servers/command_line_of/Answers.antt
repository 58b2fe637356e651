use Rattle.tftp_daemon.proofs.servers.command_line_of.Goals as goal

pub returns-then-names : goal.returns-then-names
returns-then-names g c = rw (← c.as_slice.ensures.value) (c.names.ensures c.if-names.true)
