-- What the supervisor of several servers did, by the words of its command line.
use Rattle.std.proofs.Common.{◌≡◌, ◌+◌, ◌∙◌, ℕ, List, [], ◌∷◌, ◌++◌, map, length, arith, inl, inr, ap, sym, subst}
use Rattle.std.proofs.lemmas.Bool.{cases_lt}
use Rattle.std.proofs.lemmas.List.{get_or_append_left, get_or_push, length-map, length_push, map_push}
use Rattle.tftp_daemon.specs.Configured.{servers_of}
use Rattle.tftp_daemon.specs.Servers.{NamesServerOf}
use Rattle.tftp_daemon.specs.Supervised.{AreServerLines, SupervisesConfig}
use Rattle.tftp_daemon.specs.declared.daemon.DaemonConfig.{DaemonConfig}
use Rattle.tftp_supervisor.specs.PassedOn.{PassedOn}
use Rattle.tftp_supervisor.specs.ProcessEvent.{AllSucceeded, started_in}
use Rattle.tftp_arguments.specs.Fault.{AskForText}
use Rattle.tftp_supervisor.specs.ProcessEvent.{ProcessEvent}
use Rattle.tftp_daemon.specs.CommandLine.{IfExit, IfRun}
use Rattle.tftp_daemon.specs.Supervised.{MaySupervise, SupervisesWords}
use Rattle.tftp_daemon.specs.Words.{WordsConfigure, tftpd_app}
use Rattle.tftp_daemon.specs.declared.command_line.CommandLine.{CommandLine}
use Rattle.tftp_daemon.specs.declared.command_line.CommandLine.TheVariants.{Run, Exit}

pub supervises_words : {H : Type 0} {log : H → List ProcessEvent} (words : List (List ℕ)) {status : ℕ}
    (line : CommandLine) → IfRun line (WordsConfigure words) → IfExit line (λ n. n ≡ 0 → AskForText tftpd_app words)
    → IfRun line (λ config. MaySupervise log config status) → IfExit line (λ n. status ≡ n)
    → SupervisesWords log words status
supervises_words words (Run config) names asks may same zero = inr (config, names, may zero)
supervises_words words (Exit n) names asks may same zero = inl (asks (sym same ∙ zero))

-- one more line, of the next server
named_next : (config : DaemonConfig) (lines : List (List (List ℕ))) (line : List (List ℕ)) → AreServerLines config lines →
    NamesServerOf config (length lines + 1) line → AreServerLines config (lines ++ line ∷ [])
named_next config lines line are is k below = elim (cases_lt k (length lines)) [
  | inl before ↦
      subst (NamesServerOf config (k + 1)) (sym (get_or_append_left lines (line ∷ []) [] k before)) (are k before)
  | inr behind ↦
      let long : length (lines ++ line ∷ []) ≡ length lines + 1 = length_push lines line in
      let last : length lines ≡ k = omega (arith, long, below, behind) in
      subst (NamesServerOf config (k + 1)) (sym (get_or_push lines line [] k last))
      (subst (λ (n : ℕ). NamesServerOf config (n + 1) line) last is)
]

pub lines_pushed : {Line : Type 0} (f : Line → List (List ℕ)) (config : DaemonConfig) (items pushed : List Line)
    (line : Line) (count : ℕ) → pushed ≡ items ++ line ∷ [] → length items ≡ count → AreServerLines config (map f items) →
    NamesServerOf config (count + 1) (f line) → AreServerLines config (map f pushed)
lines_pushed f config items pushed line count is counted are named =
    subst (AreServerLines config) (sym (ap (map f) is ∙ map_push f items line))
    (named_next config (map f items) (f line) are
    (subst (λ (n : ℕ). NamesServerOf config (n + 1) (f line)) (sym (length-map items f ∙ counted)) named))

-- a supervisor of just these lines
pub supervised_so : {Line : Type 0} (f : Line → List (List ℕ)) (config : DaemonConfig) (lines given : List Line)
    (events : List ProcessEvent) → given ≡ lines → length lines ≡ servers_of config →
    AreServerLines config (map f lines) → started_in events ≡ map f given → AllSucceeded (length given) events →
    PassedOn events → SupervisesConfig config events
supervised_so f config lines given events same counted named started succeeded passed =
    let all : started_in events ≡ map f lines = started ∙ ap (map f) same in
    record {
      count = ap length all ∙ (length-map lines f ∙ counted);
      named = subst (AreServerLines config) (sym all) named;
      succeeded = subst (λ (n : ℕ). AllSucceeded n events) (ap length same ∙ counted) succeeded;
      passed = passed;
    }
