-- The laws of a complete put.
use Rattle.std.proofs.Common.{rules}
use Rattle.tftp_client.proofs.Common.{◌≡◌, ℕ, true, List, length, refl, sym, ◌∙◌, Mode, Octet, Kind, SinkMeaning}
use Rattle.tftp_client.proofs.Common.{SourceMeaning, Files, Source, Sink, is_complete, SocketEvent, Job, Converses}
use Rattle.tftp_client.proofs.Common.{State, nothing_moved, run_moves, IsCountOf, IsFileOf, begun, opens, plain}
use Rattle.tftp_negotiate.specs.declared.known.Kind.TheVariants as kinds
use Rattle.tftp_client.specs.Given.{CountsWhatItSent, IsGiven, SendsWhatItsFileGave}
use Rattle.tftp_client.proofs.GivenBytes.{gave_all}
use Rattle.tftp_client.proofs.SameKind.{converses}
use Rattle.tftp_client.proofs.SentLength.{sent_all}

module _ {S K : Type 0} (sources : SourceMeaning S) (sinks : SinkMeaning K) where
  -- ---- what its file gave
  run_gave : {port : ℕ} {begin s : State} (file files : Files S K)
      (run : Converses sources sinks port begin file s files) → is_complete s.end.position.phase ≡ true
      → IsGiven sources sinks file files (run_moves run nothing_moved).bytes
  run_gave (Source first) (Source last) run done = gave_all sources sinks first run done
  run_gave (Source first) (Sink last) run done = tt
  run_gave (Sink first) files run done = tt

  pub sends_what_its_file_gave : SendsWhatItsFileGave sources sinks
  sends_what_its_file_gave most port job before s files count h7 done = search (rules, run_gave)

  -- ---- how much it sent
  octet_count : (source : S) (mode : Mode) (size count : ℕ) → IsCountOf sources sinks (Source source) mode size count
      → mode ≡ Octet → count ≡ size
  octet_count source mode size count counts octet = search rules

  -- of the run of a put
  put_counted : {port reading : ℕ} (job : Job) (size count : ℕ) (mode : Mode) {before : List SocketEvent} {s : State}
      (file files : Files S K)
      (run : Converses sources sinks port (begun job.backoff port reading (opens kinds.Write job size) before) file s files)
      → IsFileOf sources sinks kinds.Write file → is_complete s.end.position.phase ≡ true → mode ≡ Octet
      → IsCountOf sources sinks files mode size count → count ≡ length (run_moves run nothing_moved).bytes
  put_counted job size count mode file (Sink sink) run side done octet counts =
      absurd (converses sources sinks kinds.Write run side)
  put_counted job size count mode file (Source source) run side done octet counts =
      octet_count source mode size count counts octet
      ∙ sym (sent_all sources sinks size run refl refl refl done)

  run_counted : {port reading : ℕ} (kind : Kind) (job : Job) (size count : ℕ) (mode : Mode) {before : List SocketEvent} {s : State}
      (file files : Files S K)
      (run : Converses sources sinks port (begun job.backoff port reading (opens kind job size) before) file s files)
      → IsFileOf sources sinks kind file → is_complete s.end.position.phase ≡ true → kind ≡ kinds.Write → mode ≡ Octet
      → IsCountOf sources sinks files mode size count → count ≡ length (run_moves run nothing_moved).bytes
  run_counted kinds.Read job size count mode file files run side done writes octet counts =
      absurd (let e : ◌≡◌ {A = Kind} kinds.Read kinds.Write = writes in cc)
  run_counted kinds.Write job size count mode file files run side done writes octet counts =
      put_counted job size count mode file files run side done octet counts

  pub counts_what_it_sent : CountsWhatItSent sources sinks
  counts_what_it_sent most port job before s files count h7 done writes octet =
      search (rules, run_counted, plain)
