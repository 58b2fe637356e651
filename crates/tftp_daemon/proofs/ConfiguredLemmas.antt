-- What a status says, and what was done for words.
use Rattle.std.proofs.Common.{◌≡◌, ◌≤◌, ◌∙◌, ℕ, List, [], arith, inl, inr, sym, subst}
use Rattle.tftp_ends.specs.declared.endpoint.Endpoint.{Endpoint}
use Rattle.tftp_file.specs.Source.{SourceMeaning}
use Rattle.tftp_server.specs.State.{ServerState}
use Rattle.tftp_loop.specs.declared.serving.LoopConfig.{LoopConfig}
use Rattle.tftp_store.specs.Store.{StoreMeaning}
use Rattle.tftp_disk.specs.DiskTrace.{DiskEvent}
use Rattle.tftp_sockets.specs.Trace.{SocketEvent}
use Rattle.tftp_daemon.specs.CommandLine.{IfExit, IfRun}
use Rattle.tftp_daemon.specs.Configured.{IsServerOf, ListensAt, MayServe, RunsService, ServesWords, service_at}
use Rattle.tftp_arguments.specs.Fault.{AskForText}
use Rattle.tftp_daemon.specs.Words.{WordsConfigure, tftpd_app}
use Rattle.tftp_daemon.specs.declared.command_line.CommandLine.{CommandLine}
use Rattle.tftp_daemon.specs.declared.command_line.CommandLine.TheVariants.{Run, Exit}
use Rattle.tftp_daemon.specs.declared.daemon.DaemonConfig.{DaemonConfig}
use Rattle.tftp_folder.specs.declared.folder_store.FolderStore.{FolderStore}

module _ {B G H W F D : Type 0} {log : B → List DiskEvent} {start : List DiskEvent}
    {meaning : StoreMeaning (FolderStore B G H W) D} {sources : SourceMeaning F} {before after : List SocketEvent} where
  -- what was noted is the same by another name of the status
  pub with_status : {config : DaemonConfig} {status other : ℕ} → status ≡ other
      → MayServe log start meaning sources config status before after
      → MayServe log start meaning sources config other before after
  with_status {config} same serves = subst (λ (n : ℕ). MayServe log start meaning sources config n before after) same serves

  -- a server ran with the configuration of the loop that has its request port there
  pub serves_at : {config : DaemonConfig} {at : Endpoint} {service : LoopConfig}
      {server : ServerState (FolderStore B G H W) F D} {status : ℕ} → service ≡ service_at config at
      → config.instance.servers ≤ 1 → config.others.items ≡ [] → ListensAt config.listen at → IsServerOf log start config server
      → RunsService meaning sources service server status before after
      → MayServe log start meaning sources config status before after
  serves_at {config} {at} {service} {server} {status} same alone one listens is runs =
      inr (record {
        alone = alone;
        at_one_address = one;
        at = at;
        listens = listens;
        server = server;
        is_server = is;
        runs = subst (λ (s : LoopConfig). RunsService meaning sources s server status before after) same runs;
      })

  -- a server ran with the configuration that the words name, or without one nothing was done, with
  -- a status of 0 only if they ask for a text
  pub serves_words : (words : List (List ℕ)) {status : ℕ} (line : CommandLine)
      → IfRun line (WordsConfigure words) → IfExit line (λ n. n ≡ 0 → AskForText tftpd_app words)
      → IfRun line (λ config. MayServe log start meaning sources config status before after) → IfExit line (λ _. after ≡ before)
      → IfExit line (λ n. status ≡ n) → ServesWords log start meaning sources words status before after
  serves_words words (Run config) names asks (inl (none, inl two)) same is =
      inl (none, λ zero. absurd (omega (arith, two, zero)))
  serves_words words (Run config) names asks (inl (none, inr several)) same is =
      inl (none, λ zero. inr (config, names, several))
  serves_words words (Run config) names asks (inr serves) same is = inr (config, names, serves)
  serves_words words (Exit n) names asks runs same is = inl (same, λ zero. inl (asks (sym is ∙ zero)))

-- what was done from one history on was done from another that is the same
pub from_same : {B G H W F D : Type 0} {log : B → List DiskEvent} {start : List DiskEvent}
    {meaning : StoreMeaning (FolderStore B G H W) D} {sources : SourceMeaning F} {config : DaemonConfig} {status : ℕ}
    {before middle after : List SocketEvent} → middle ≡ before
    → MayServe log start meaning sources config status middle after
    → MayServe log start meaning sources config status before after
from_same {log = log} {start = start} {meaning = meaning} {sources = sources} {config = config} {status = status}
    {after = after} same serves =
    subst (λ (events : List SocketEvent). MayServe log start meaning sources config status events after) same serves
