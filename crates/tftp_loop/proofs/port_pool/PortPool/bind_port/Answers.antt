use Rattle.std.proofs.Common.{rules}
use Rattle.tftp_loop.proofs.PoolLemmas.{tries_any}
use Rattle.tftp_loop.proofs.port_pool.PortPool.bind_port.Goals as goal

pub returns-in-None-clause-tries : goal.returns-in-None-clause-tries
returns-in-None-clause-tries g c = search (rules, tries_any)
