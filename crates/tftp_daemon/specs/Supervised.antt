-- What the supervisor of several servers did, by the words of its command line (own).
use Rattle.std.specs.Prelude.{ℕ, ◌≡◌, ◌<◌, ◌+◌, ◌⊎◌, List, [], length, slice_index_or}
use Rattle.tftp_arguments.specs.Fault.{AskForText}
use Rattle.tftp_supervisor.specs.PassedOn.{PassedOn}
use Rattle.tftp_supervisor.specs.ProcessEvent.{AllSucceeded, ProcessEvent, started_in}
use Rattle.tftp_daemon.specs.Configured.{IsOfSeveral, servers_of}
use Rattle.tftp_daemon.specs.Servers.{NamesServerOf}
use Rattle.tftp_daemon.specs.Words.{WordsConfigure, tftpd_app}
use Rattle.tftp_daemon.specs.declared.daemon.DaemonConfig.{DaemonConfig}

-- each of these command lines names the server of the configuration that has its place, from 1 on
abbrev pub AreServerLines : DaemonConfig → List (List (List ℕ)) → Type 0
AreServerLines config lines =
    (k : ℕ) → k < length lines → NamesServerOf config (k + 1) (slice_index_or lines k [])

-- a supervisor did this: it started as many servers as the configuration has, in their order, each
-- by a command line that names it; each of them ended with the status 0; and what they printed was
-- printed, line by line
pub record SupervisesConfig (config : DaemonConfig) (events : List ProcessEvent) : Type 0 where
  pub count : length (started_in events) ≡ servers_of config
  pub named : AreServerLines config (started_in events)
  pub succeeded : AllSucceeded (servers_of config) events
  pub passed : PassedOn events

module _ {H : Type 0} (supervised : H → List ProcessEvent) where
  -- a supervisor ran, which did this
  abbrev pub Supervised : DaemonConfig → Type 0
  Supervised config = (ran : H) × SupervisesConfig config (supervised ran)

  -- the status of several servers is 0 only if their supervisor ran
  abbrev pub MaySupervise : DaemonConfig → ℕ → Type 0
  MaySupervise config status = status ≡ 0 → IsOfSeveral config → Supervised config

  -- the status is 0 only if the words ask for the help or the version, or name a configuration whose
  -- supervisor ran, if it has several servers
  abbrev pub SupervisesWords : List (List ℕ) → ℕ → Type 0
  SupervisesWords words status =
      status ≡ 0 → AskForText tftpd_app words
      ⊎ ((config : DaemonConfig) × WordsConfigure words config
      × (IsOfSeveral config → Supervised config))
