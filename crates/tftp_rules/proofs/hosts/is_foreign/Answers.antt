-- An endpoint with neither address is at neither host.
use Rattle.tftp_rules.proofs.Common.{sym, ◌∙◌, Bool, ap, not, ◌&&◌, client_ip, is_same_ip}
use Rattle.tftp_rules.proofs.HostLemmas.{foreign_by}
use Rattle.tftp_rules.proofs.hosts.is_foreign.Goals as goal

pub returns-then-not-is_server : goal.returns-then-not-is_server
returns-then-not-is_server c =
    rw (← ap (λ (b : Bool). b && not (is_same_ip c.args.endpoint.now.ip client_ip)) (ap not (sym c.is_server.ensures ∙
    c.if-not-is_server.true)) ∙ ap not (sym c.is_client.ensures)) (foreign_by c.args.endpoint.now)

pub returns-else-not-is_server : goal.returns-else-not-is_server
returns-else-not-is_server c =
    rw (← ap (λ (b : Bool). b && not (is_same_ip c.args.endpoint.now.ip client_ip)) (ap not (sym c.is_server.ensures ∙
    c.if-not-is_server.false)) ∙ ap not (sym c.if-not-is_server.false)) (foreign_by c.args.endpoint.now)
