-- The file of a complete job has its name, and what moved is in it.
use Rattle.std.proofs.Common.{rules}
use Rattle.tftp_client.proofs.Common.{◌≡◌, ◌⊎◌, ℕ, Bool, true, List, Some, inl, inr, refl, sym, ap, ◌∙◌, subst, ∥∥₁_map}
use Rattle.tftp_client.proofs.Common.{same_Some, Holding, SinkMeaning, SourceMeaning, Files, Source, Sink, DiskEvent}
use Rattle.tftp_client.proofs.Common.{DiskSource, SocketEvent, LocalFile, Job, Converses, State, KeepsPlace, Paths}
use Rattle.tftp_client.proofs.Common.{WasNamed, IsFor, job_paths, tftp_app, bytes_in, held_of, paths_of}
use Rattle.std.specs.declared.io.traits.Read as read
use Rattle.std.specs.declared.io.traits.Write as write
use Rattle.std.specs.declared.io.traits.Seek as seek
use Rattle.tftp_negotiate.specs.declared.known.Kind.TheVariants as kinds
use Rattle.tftp_arguments.specs.Fault.{AskForText}
use Rattle.tftp_disk.specs.declared.disk.Looks as looks
use Rattle.tftp_client.specs.declared.command_line.CommandLine.{CommandLine}
use Rattle.tftp_client.specs.declared.command_line.CommandLine.TheVariants as lines
use Rattle.tftp_client.specs.CommandLine.{IfExit, IfRun}
use Rattle.tftp_client.specs.OnDisk.{IsOnDisk, KeepsFile}
use Rattle.tftp_client.specs.Ordered.{EndsWithoutJob}
use Rattle.tftp_client.specs.Runs.{IsWhole}
use Rattle.tftp_client.specs.Sent.{DoesOrder, DoesWords}
use Rattle.tftp_client.specs.Stored.{HasDisk, IsReceived}
use Rattle.tftp_client.specs.Words.{WordsName}
use Rattle.tftp_client.proofs.Changing.{then_keeps}
use Rattle.tftp_client.proofs.SameKind.{converses}
use Rattle.tftp_client.proofs.SameSink.{run_stays}

module _ {D F V G : Type 0} {logs : looks.Ghosts D} {writes : write.Ghosts F} {views : looks.Ghosts V}
    {reads : read.Ghosts G} {seeks : seek.Ghosts G} where
  abbrev pub paths_in : LocalFile D F V G logs writes views reads seeks → Paths
  paths_in local = paths_of local.part.names local.part.existing

  abbrev pub log_in : LocalFile D F V G logs writes views reads seeks → List DiskEvent
  log_in local = logs.log local.part.disk

  abbrev pub tried_in : LocalFile D F V G logs writes views reads seeks → Bool
  tried_in local = local.part.is_tried

module _ {S : Type 0} {D F V G : Type 0} {logs : looks.Ghosts D} {writes : write.Ghosts F} {views : looks.Ghosts V}
    {reads : read.Ghosts G} {seeks : seek.Ghosts G} where
  -- the file of a job stays that
  pub still_for : (job : Job) (file files : Files S (LocalFile D F V G logs writes views reads seeks)) → KeepsFile file files → IsFor job file → IsFor job files
  still_for job file files keeps is = search rules

  pub kept_then : (a b c : Files S (LocalFile D F V G logs writes views reads seeks)) → KeepsFile a b → KeepsFile b c → KeepsFile a c
  kept_then a b c p q = search rules

  pub received : (local : LocalFile D F V G logs writes views reads seeks) (files : Files S (LocalFile D F V G logs writes views reads seeks)) → KeepsFile (Sink local) files → IsReceived files
  received local (Source b) keeps = absurd keeps
  received local (Sink b) keeps = tt

  -- the disk of a received file has these calls
  abbrev pub HasCalls : Files S (LocalFile D F V G logs writes views reads seeks) → List DiskEvent → Type 0
  HasCalls (Source source) calls = Unit {0}
  HasCalls (Sink local) calls = calls ≡ log_in local

  pub has_calls : (files : Files S (LocalFile D F V G logs writes views reads seeks)) (disk : D) → HasDisk files disk → HasCalls files (logs.log disk)
  has_calls (Source source) disk has = absurd has
  has_calls (Sink local) disk has = ap (λ (d : D). logs.log d) has

  pub sends_calls : (source : S) (files : Files S (LocalFile D F V G logs writes views reads seeks)) (calls : List DiskEvent) → KeepsFile (Source source) files
      → HasCalls files calls
  sends_calls source (Source other) calls keeps = tt
  sends_calls source (Sink local) calls keeps = absurd keeps

module _ {S : Type 0} {D F V G : Type 0} {logs : looks.Ghosts D} {writes : write.Ghosts F} {views : looks.Ghosts V}
    {reads : read.Ghosts G} {seeks : seek.Ghosts G}
    (sources : SourceMeaning S) (sinks : SinkMeaning (LocalFile D F V G logs writes views reads seeks)) where
  abbrev TheLocal : Type 0
  TheLocal = LocalFile D F V G logs writes views reads seeks

  module _ (becomes : (before after : TheLocal) (committed : Bool) → sinks.becomes before after committed
      → KeepsPlace (paths_in before) (paths_in after) (tried_in before) (tried_in after) (log_in before)
      (log_in after)) where
    -- a run asks the disk of its file for no other name
    pub kept : (file files : Files S TheLocal) {port : ℕ} {first : State} {s : State}
        → Converses sources sinks port first file s files → KeepsFile file files
    kept (Source a) (Source b) run = tt
    kept (Source a) (Sink b) run = absurd (converses sources sinks kinds.Write run tt)
    kept (Sink a) (Source b) run = absurd (converses sources sinks kinds.Read run tt)
    kept (Sink a) (Sink b) run =
        run_stays sources sinks
        (λ (x : TheLocal). KeepsPlace (paths_in a) (paths_in x) (tried_in a) (tried_in x) (log_in a) (log_in x))
        (λ before after committed same until.
        then_keeps (paths_in a) (paths_in before) (paths_in after) (tried_in a) (tried_in before) (tried_in after)
        (log_in a) (log_in before) (log_in after) until (becomes before after committed same))
        run
        (record {
          same = refl;
          keeps = record { own = λ own. own; barred = λ barred. barred };
          rests = λ tried. (tried, refl);
        })

  -- what a complete file holds has the name, and nothing is asked of its disk until that is handed back
  pub of_file : ((local : TheLocal) → sinks.held local ≡ Some (held_of local.part.written local.committed))
      → (job : Job) (files files' : Files S TheLocal) (count : ℕ) (bytes : List ℕ) (calls : List DiskEvent) → IsFor job files
      → IsWhole sources sinks files count bytes → KeepsFile files files' → HasCalls files' calls
      → IsOnDisk job files bytes calls
  of_file known job (Source source) files' count bytes calls is whole keeps has = tt
  of_file known job (Sink local) (Source source) count bytes calls is whole keeps has = absurd keeps
  of_file known job (Sink local) (Sink last) count bytes calls is whole keeps has =
      let holding = held_of local.part.written local.committed in
      let same : whole.0 ≡ holding = same_Some whole.0 holding (sym whole.1 ∙ known local) in
      let held : bytes_in local.part.written ≡ bytes = ap (λ (h : Holding). h.bytes) (sym same) ∙ whole.3 in
      let done : local.committed ≡ true = ap (λ (h : Holding). h.committed) (sym same) ∙ whole.2 in
      let tried = local.named done in
      ∥∥₁_map tried.1 (λ named.
      subst (λ (l : List DiskEvent). WasNamed (job_paths job) bytes l) (sym has)
      (subst (λ (p : Paths). WasNamed p bytes (logs.log last.part.disk)) is
      (subst (λ (l : List DiskEvent). WasNamed (paths_in local) bytes l) (sym (keeps.rests tried.0).1)
      (subst (λ (b : List ℕ). WasNamed (paths_in local) b (log_in local)) held named))))

module _ {D F V G : Type 0} {logs : looks.Ghosts D} {writes : write.Ghosts F} {views : looks.Ghosts V}
    {reads : read.Ghosts G} {seeks : seek.Ghosts G}
    (sources : SourceMeaning (DiskSource G)) (sinks : SinkMeaning (LocalFile D F V G logs writes views reads seeks)) where
  -- without a job the status says whether the words ask for a text
  ends_without : (words : List (List ℕ)) (status : ℕ) → (status ≡ 0) ⊎ (status ≡ 2)
      → (status ≡ 0 → AskForText tftp_app words) → EndsWithoutJob words status
  ends_without words status (inl zero) text = inl (zero, text zero)
  ends_without words status (inr two) text = inr two

  -- a job was run, or nothing was done
  pub does_words : {before after : List SocketEvent} {calls calls' : List DiskEvent} (words : List (List ℕ)) {status : ℕ}
      (line : CommandLine)
      → IfRun line (λ job. WordsName words job)
      → IfExit line (λ n. (n ≡ 0) ⊎ (n ≡ 2))
      → IfExit line (λ n. n ≡ 0 → AskForText tftp_app words)
      → IfRun line (λ job. DoesOrder sources sinks job status before after calls calls')
      → IfExit line (λ _. after ≡ before) → IfExit line (λ _. calls' ≡ calls) → IfExit line (λ n. status ≡ n)
      → DoesWords sources sinks words status before after calls calls'
  does_words words (lines.Run job) names ends text runs none unchanged same =
      (inr (job, names, runs.0), (runs.1, runs.2), runs.3)
  does_words words (lines.Exit n) names ends text runs none unchanged same =
      (inl (none, subst (EndsWithoutJob words) (sym same) (ends_without words n ends text)), unchanged, tt)
