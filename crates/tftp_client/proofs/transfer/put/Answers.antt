-- The run from its request on, with the file as it was opened.
use Rattle.tftp_client.proofs.Common.{refl, Write}
use Rattle.tftp_client.proofs.Concluding.{runs_once}
use Rattle.tftp_client.proofs.NamedOnDisk.{sends_calls}
use Rattle.tftp_client.proofs.SentFile.{octet_length}
use Rattle.tftp_client.proofs.transfer.put.Goals as goal

pub returns-in-Ok-ask_to_put : goal.returns-in-Ok-ask_to_put
returns-in-Ok-ask_to_put g c =
    let outbound = c.in-Ok.outbound in
    let long = c.in-Ok.ensures.long c.in-Ok-ask_to_put.ensures.fits in
    runs_once _ _ (λ local. refl) (λ before after committed same. same) c.args.job.now Write outbound.length.bytes
    outbound.length.wire_bytes c.args.waits.now _ _ _ _ _ _ _ c.converse.new.files c.in-Ok-ask_to_put.ensures.may
    c.in-Ok-ask_to_put.ensures.begins tt tt tt (octet_length c.args.job.now.mode _ _ _ long) (
      c.in-Ok.ensures.opened,
      long,
    ) (sends_calls outbound.source c.converse.new.files _ c.converse.ensures.keeps) refl c.converse.ensures
