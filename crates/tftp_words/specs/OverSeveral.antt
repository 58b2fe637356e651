-- From end to end with several servers at one address: what holds of a complete job with the server
-- whose answer its client took (RFC 1350, section 4).
use Rattle.tftp_words.specs.Common.{SinkMeaning, SourceMeaning, Files, DiskEvent, StoreMeaning}
use Rattle.tftp_words.specs.Common.{FolderStore, IsServed, alone, KeepAnyFiles, Noted, Programs}
use Rattle.tftp_words.specs.Common.{Several, OneServer, OneClient}
use Rattle.std.specs.Prelude.{ℕ, ◌≡◌, List, slice_get, Some}
use Rattle.std.specs.List.{AllByRecursion}
use Rattle.tftp_words.specs.EndToEnd.{FileDone, RanComplete}
use Rattle.tftp_words.specs.Ran.{ClientRan, HoldsOfSeveral, IsRunFor, Job, ServerRan}

module _ {S F D G K : Type 0} {stores : StoreMeaning S D} {sources : SourceMeaning F}
    {inputs : SourceMeaning G} {outputs : SinkMeaning K}
    (several : Several stores sources inputs outputs) (order : List Noted) where
  -- a program of the network did this job. With each server that serves it, it keeps the promises,
  -- and this holds of the two, for which all other programs are strangers
  pub record DoneWithServer (Holds : Programs stores sources inputs outputs → Type 0) (job : Job)
      : Type 0 where
    pub k : ℕ
    pub client : OneClient several
    pub found : slice_get several.clients k ≡ Some client
    pub runs : IsRunFor job client
    pub with_each : (i : ℕ) (server : OneServer several) →
        slice_get several.servers i ≡ Some server → IsServed several order i server k client →
        KeepAnyFiles (alone several i server client) × Holds (alone several i server client)

  -- of a complete job, in whose run these bytes moved: this holds of its file with its server
  abbrev pub FileThere : (Programs stores sources inputs outputs → Job → Files G K → ℕ → List ℕ
      → Type 0) → Job → Files G K → ℕ → List ℕ → Type 0
  FileThere Holds job files count bytes =
      DoneWithServer (λ programs. Holds programs job files count bytes) job

  abbrev pub HasDoneThere : ClientRan inputs outputs → Type 0
  HasDoneThere = RanComplete inputs outputs (FileThere FileDone)

module _ {R G H W F D I K : Type 0} (log : R → List DiskEvent)
    (stores : StoreMeaning (FolderStore R G H W) D) (sources : SourceMeaning F)
    (inputs : SourceMeaning I) (outputs : SinkMeaning K) where
  -- what the file of a complete get was handed is just what the source of the server gave that
  -- serves it, and what that of a complete put gave is just what the draft of that server took
  -- before a commit of it succeeded
  abbrev pub SeveralMoveFiles : Type 0
  SeveralMoveFiles =
      (ip : List ℕ) (port : ℕ) (servers : List (ServerRan log stores sources))
      (clients : List (ClientRan inputs outputs))
      → HoldsOfSeveral ip port servers clients
      (λ several order. AllByRecursion (HasDoneThere several order) clients)
