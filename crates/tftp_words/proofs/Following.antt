-- What follows of each complete job follows of all that commands did, with one server and with several.
use Rattle.tftp_words.proofs.Common.{List, [], ◌∷◌, ℕ, inl, inr, map, AllByRecursion, SinkMeaning, SourceMeaning, Files}
use Rattle.tftp_words.proofs.Common.{DiskEvent, StoreMeaning, SocketEvent, RunsWords, FolderStore, alone, Noted}
use Rattle.tftp_words.proofs.Common.{Programs, Several, RanComplete, WordsComplete, ClientRan, HoldsOfOne}
use Rattle.tftp_words.proofs.Common.{HoldsOfSeveral, Job, ServerRan}
use Rattle.tftp_words.specs.OverSeveral.{DoneWithServer}
use Rattle.tftp_words.specs.Ran.{AreRan, AreSeveralRan}

-- of the programs of commands
module _ {R G H W F D I K : Type 0} {log : R → List DiskEvent} {stores : StoreMeaning (FolderStore R G H W) D}
    {sources : SourceMeaning F} {inputs : SourceMeaning I} {outputs : SinkMeaning K} where
  pub one_then : {server : ServerRan log stores sources} {port : ℕ} {clients : List (ClientRan inputs outputs)}
      {Holds Follows : Programs stores sources inputs outputs → Type 0} →
      ((programs : Programs stores sources inputs outputs) → AreRan server port clients programs → Holds programs →
      Follows programs) → HoldsOfOne server port clients Holds → HoldsOfOne server port clients Follows
  one_then follows holds bound asks =
      let made = holds bound asks in (
        made.0,
        made.1,
        λ order is_order honest fresh. follows made.0 made.1 (made.2 order is_order honest fresh),
      )

  pub several_then : (ip : List ℕ) {port : ℕ} {servers : List (ServerRan log stores sources)}
      {clients : List (ClientRan inputs outputs)}
      {Hold Follow : Several stores sources inputs outputs → List Noted → Type 0} →
      ((several : Several stores sources inputs outputs) (order : List Noted) →
      AreSeveralRan servers port clients several → Hold several order → Follow several order) →
      HoldsOfSeveral ip port servers clients Hold → HoldsOfSeveral ip port servers clients Follow
  several_then ip follow hold serve asks =
      let made = hold serve asks in (made.0, made.1, λ order. follow made.0 order made.1 (made.2 order))

-- of a job with one server, and so of it with the one that serves its client
module _ {S F D G K : Type 0} {stores : StoreMeaning S D} {sources : SourceMeaning F} {inputs : SourceMeaning G}
    {outputs : SinkMeaning K} (several : Several stores sources inputs outputs) (order : List Noted)
    (Done Reaches : Programs stores sources inputs outputs → Type 0) (job : Job) where
  pub also_there : ((programs : Programs stores sources inputs outputs) → Done programs → Reaches programs) →
      DoneWithServer several order Done job → DoneWithServer several order Reaches job
  also_there reaches done = record {
    k = done.k;
    client = done.client;
    found = done.found;
    runs = done.runs;
    with_each =
        λ i server at served.
        let both = done.with_each i server at served in
        (both.0, reaches (alone several i server done.client) both.1);
  }

-- of two facts about the file of a job that words name, if it is complete
module _ {G K : Type 0} {inputs : SourceMeaning G} {outputs : SinkMeaning K}
    {Also Done Reaches : Job → Files G K → ℕ → List ℕ → Type 0}
    (reaches : (job : Job) (files : Files G K) (count : ℕ) (bytes : List ℕ) → Also job files count bytes →
    Done job files count bytes → Reaches job files count bytes) where
  complete_then : (words : List (List ℕ)) (status : ℕ) (before after : List SocketEvent)
      (h : RunsWords inputs outputs words status before after) →
      WordsComplete inputs outputs Also words status before after h →
      WordsComplete inputs outputs Done words status before after h →
      WordsComplete inputs outputs Reaches words status before after h
  complete_then words status before after (inl none) also done = tt
  complete_then words status before after (inr (job, named, inl ran)) also done =
      reaches job ran.1.files ran.1.count _ also done
  complete_then words status before after (inr (job, named, inr failed)) also done = tt

-- and so of those of all commands
module _ {C G K : Type 0} {inputs : SourceMeaning G} {outputs : SinkMeaning K} (ran : C → ClientRan inputs outputs)
    {Also Reaches : C → Job → Files G K → ℕ → List ℕ → Type 0} {Done : Job → Files G K → ℕ → List ℕ → Type 0}
    (reaches : (client : C) (job : Job) (files : Files G K) (count : ℕ) (bytes : List ℕ) →
    Also client job files count bytes → Done job files count bytes → Reaches client job files count bytes)
    (also : (client : C) → RanComplete inputs outputs (Also client) (ran client)) where
  pub all_then : (clients : List C) → AllByRecursion (RanComplete inputs outputs Done) (map ran clients) →
      AllByRecursion (λ client. RanComplete inputs outputs (Reaches client) (ran client)) clients
  all_then [] done = tt
  all_then (client ∷ clients) done = (
    complete_then (reaches client) (ran client).words (ran client).status (ran client).before (ran client).after
        (ran client).ran (also client) done.0,
    all_then clients done.1,
  )
