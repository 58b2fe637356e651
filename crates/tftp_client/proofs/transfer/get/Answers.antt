-- The looks of its place, and then the run from its request on.
use Rattle.std.proofs.Common.{rules}
use Rattle.tftp_client.proofs.Common.{Some, ap, refl, ◌∙◌, Keeps, job_paths}
use Rattle.tftp_negotiate.specs.declared.known.Kind.TheVariants.{Read}
use Rattle.tftp_client.proofs.Concluding.{runs_none, runs_once}
use Rattle.tftp_client.proofs.NamedOnDisk.{has_calls, received}
use Rattle.tftp_client.proofs.transfer.get.Goals as goal

pub returns : goal.returns
returns g c =
    let keeps : Keeps (job_paths c.args.job.now) (g.D.Looks.log c.args.disk) (g.D.Looks.log c.disk_of.result) =
    search rules in
    runs_once _ _ (λ local. refl) (λ before after committed same. same) c.args.job.now Read 0 0 c.args.waits.now _ _ _ _ _
    _ _ c.converse-ended.new.files c.in-Ok-ask_to_get.ensures.may c.in-Ok-ask_to_get.ensures.begins tt (ap Some
    c.new-local.ensures.empty) (c.new-local.ensures.paths ∙ c.in-Ok.ensures.paths) (λ octet. refl) tt (has_calls _ _
    c.disk_of.ensures) keeps c.converse-ended.ensures

pub disk_of-requires : goal.disk_of-requires
disk_of-requires g c = received c.new-local.result c.converse-ended.new.files c.converse-ended.ensures.keeps

pub returns-in-Err-ask_to_get : goal.returns-in-Err-ask_to_get
returns-in-Err-ask_to_get g c =
    let keeps : Keeps (job_paths c.args.job.now) (g.D.Looks.log c.args.disk) (g.D.Looks.log c.into_disk.result) =
    search rules in
    runs_none _ _ (λ local. refl) c.args.job.now Read c.args.waits.now c.in-Err-ask_to_get.failure _ _ _ _
    c.in-Err-ask_to_get.ensures.err.0 c.in-Err-ask_to_get.ensures.err.1 keeps
