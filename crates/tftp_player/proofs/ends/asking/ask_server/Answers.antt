-- The server carries its decision out, and the end that opens is taken from it.
use Rattle.tftp_player.proofs.Common.{◌∙◌, Option, Some, refl, sym, ap, Stored, PlayedServer, released_end}
use Rattle.tftp_player.proofs.Common.{ServerTransfer}
use Rattle.tftp_player.proofs.AskingLemmas.{server_answers, server_returns}
use Rattle.tftp_player.proofs.ServerLemmas.{released}
use Rattle.tftp_player.proofs.ends.asking.ask_server.Goals as goal

pub returns-in_default-release-clause-server : goal.returns-in_default-release-clause-server
returns-in_default-release-clause-server c =
    server_returns c.args.server.now c.args.occupancy c.args.from c.args.bytes.now c.args.port c.requires.empty
    c.requires.block c.in-Ok.admission c.in-Ok.ensures.admits c.in-Ok.ensures.from c.in-Ok.ensures.bytes
    c.open.new.self c.in-Ok-open.opened c.new-out.result.items c.open.new.out.items c.in-Ok-open.ensures.carries_out
    c.release.new.self c.release.ensures.rest

pub returns-clause-server : goal.returns-clause-server
returns-clause-server c =
    server_returns c.args.server.now c.args.occupancy c.args.from c.args.bytes.now c.args.port c.requires.empty
    c.requires.block c.in-Ok.admission c.in-Ok.ensures.admits c.in-Ok.ensures.from c.in-Ok.ensures.bytes
    c.open.new.self c.in-Ok-open.opened c.new-out.result.items c.open.new.out.items c.in-Ok-open.ensures.carries_out
    c.release.new.self c.release.ensures.rest

pub returns-in_default-release-clause-answers : goal.returns-in_default-release-clause-answers
returns-in_default-release-clause-answers c =
    server_answers c.args.server.now c.args.occupancy c.args.from c.args.bytes.now c.args.port c.requires.empty
    c.requires.block c.in-Ok.admission c.in-Ok.ensures.admits c.in-Ok.ensures.from c.in-Ok.ensures.bytes
    c.open.new.self c.in-Ok-open.opened c.new-out.result.items c.open.new.out.items c.in-Ok-open.ensures.carries_out
    _ refl refl c.new-out.ensures.items
    (ap (λ (o : Option ServerTransfer). released o c.args.server.now.store.files)
    (sym c.in_default-release.is ∙ c.release.ensures.released))

pub returns-clause-answers : goal.returns-clause-answers
returns-clause-answers c =
    server_answers c.args.server.now c.args.occupancy c.args.from c.args.bytes.now c.args.port c.requires.empty
    c.requires.block c.in-Ok.admission c.in-Ok.ensures.admits c.in-Ok.ensures.from c.in-Ok.ensures.bytes
    c.open.new.self c.in-Ok-open.opened c.new-out.result.items c.open.new.out.items c.in-Ok-open.ensures.carries_out
    _ refl refl c.new-out.ensures.items
    (ap Some
    (c.in-Ok-new.ensures.new
    ∙ ap (λ (st : Stored). released_end c.in-Some.transfer st.files)
    (c.store.ensures ∙ ap (λ (s : PlayedServer). s.store) (returns-clause-server c)))
    ∙ ap (λ (o : Option ServerTransfer). released o c.args.server.now.store.files)
    (sym c.in-Some.is ∙ c.release.ensures.released))
