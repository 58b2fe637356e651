-- What moved in the run of a complete put was read of its file.
use Rattle.std.proofs.Common.{arith, rules}
use Rattle.tftp_client.proofs.Common.{◌≡◌, ℕ, true, List, ◌++◌, length, take, inl, inr, sym, ap, ◌∙◌, subst, same_Some}
use Rattle.tftp_client.proofs.Common.{Mode, Netascii, Kind, SinkMeaning, SourceMeaning, Files, Source, Sink}
use Rattle.tftp_client.proofs.Common.{is_complete, DiskSource, SocketEvent, Job, Converses, State, nothing_moved}
use Rattle.tftp_client.proofs.Common.{run_moves, IsFileOf, Transfers, begun, opens, plain}
use Rattle.std.proofs.Math.Seq.{take-append_seam}
use Rattle.std.proofs.lemmas.Grind.{common_steps}
use Rattle.tftp_negotiate.specs.declared.known.Kind.TheVariants as kinds
use Rattle.tftp_file.specs.Netascii.{wire_text}
use Rattle.tftp_file.specs.Source.{GivesInTurn}
use Rattle.tftp_disk.specs.DiskSource.{source_calls, wire_read}
use Rattle.tftp_disk.specs.DiskSourceLaws.{GivesInOrder}
use Rattle.tftp_client.specs.Outbound.{HasLength, IsPassed}
use Rattle.tftp_client.specs.Runs.{moved_by}
use Rattle.tftp_client.specs.Sent.{BeginsAt, BeginsFor, IsSent, IsSentFrom, SendsTheTextWhole}
use Rattle.tftp_client.specs.Sent.{SendsWhatReadsReturned, StillHas}
use Rattle.tftp_client.proofs.GivenBytes.{gave_all}
use Rattle.tftp_client.proofs.SameKind.{converses}
use Rattle.tftp_client.proofs.SentFile.{none_given, same_length}
use Rattle.tftp_client.proofs.SentLength.{sent_all}

module _ {F K : Type 0} where
  -- a job without options has the same file
  pub for_plain : (job : Job) (bytes wire : ℕ) (file : Files (DiskSource F) K) → BeginsAt (plain job) bytes wire file
      → BeginsAt job bytes wire file
  for_plain job bytes wire (Source source) is = is
  for_plain job bytes wire (Sink sink) is = is

  to_plain : (job : Job) (bytes wire : ℕ) (file : Files (DiskSource F) K) → BeginsAt job bytes wire file
      → BeginsAt (plain job) bytes wire file
  to_plain job bytes wire (Source source) is = is
  to_plain job bytes wire (Sink sink) is = is

  of_plain : (job : Job) (files : Files (DiskSource F) K) (count : ℕ) (bytes : List ℕ) → IsSentFrom (plain job) files count bytes
      → IsSentFrom job files count bytes
  of_plain job files count bytes h = search rules

  -- what was sent of a text that was not changed
  of_text : (job : Job) (files : Files (DiskSource F) K) (count : ℕ) (bytes text : List ℕ)
      → IsSentFrom job files count bytes → job.mode ≡ Netascii → StillHas text files
      → (bytes ≡ wire_text Netascii text) × (count ≡ length text)
  of_text job (Sink sink) count bytes text sent netascii still = absurd still
  of_text job (Source source) count bytes text sent netascii still =
      let calls = source_calls source in
      let length_is : IsPassed count (length bytes) calls =
      subst (λ (m : Mode). HasLength m count (length bytes) calls) netascii sent.long in
      let same : length_is.text ≡ text = same_Some length_is.text text (sym length_is.read ∙ still.0) in
      let wire = wire_text Netascii text in
      let more = wire_text Netascii still.1.0 in
      let all : wire_read source ≡ wire ++ more = grind (arith, common_steps) in
      let long : length bytes ≡ length wire =
      length_is.long ∙ ap (λ (t : List ℕ). length (wire_text Netascii t)) same in (
        sym (take-append_seam bytes sent.gave.begins.0) ∙ ap (take (length bytes)) (sent.gave.begins.1 ∙ all) ∙ ap (λ (n
            : ℕ). take n (wire ++ more)) long ∙ take-append_seam wire more,
        length_is.count ∙ ap length same,
      )

  module _ (sources : SourceMeaning (DiskSource F)) (sinks : SinkMeaning K) where
    -- a file that was sent
    sent : GivesInOrder sources → {port reading : ℕ} (job : Job) (kind : Kind) (size count : ℕ) {before : List SocketEvent} {s : State}
        (first source : DiskSource F)
        (run : Converses sources sinks port (begun job.backoff port reading (opens kind job size) before) (Source first) s (Source source))
        → IsFileOf sources sinks kind (Source first) → is_complete s.end.position.phase ≡ true
        → BeginsAt {K = K} job count size (Source first) → IsSent job source count (run_moves run nothing_moved).bytes
    sent in_order job kinds.Read size count first source run side done begins = absurd side
    sent in_order job kinds.Write size count first source run side done begins =
        let bytes = (run_moves run nothing_moved).bytes in
        let turns : GivesInTurn sources first bytes source = gave_all sources sinks first run done in
        let h = in_order job.mode first source bytes turns begins.0.unread (none_given (source_calls first)
        begins.0.start) in
        search (rules, same_length, length, sent_all)

    run_sent : GivesInOrder sources → {port reading : ℕ} (job : Job) (kind : Kind) (size count : ℕ) {before : List SocketEvent}
        {s : State} (file files : Files (DiskSource F) K)
        (run : Converses sources sinks port (begun job.backoff port reading (opens kind job size) before) file s files)
        → IsFileOf sources sinks kind file → is_complete s.end.position.phase ≡ true → BeginsAt job count size file
        → IsSentFrom job files count (run_moves run nothing_moved).bytes
    run_sent in_order job kind size count file (Sink sink) run side done begins = tt
    run_sent in_order job kind size count (Source first) (Source source) run side done begins =
        sent in_order job kind size count first source run side done begins
    run_sent in_order job kinds.Read size count (Sink sink) (Source source) run side done begins =
        absurd (converses sources sinks kinds.Read run tt)
    run_sent in_order job kinds.Write size count (Sink sink) (Source source) run side done begins = absurd side

    -- what moved in the run of a complete job
    pub was_read : GivesInOrder sources → {most port : ℕ} {job : Job} {before : List SocketEvent} {s : State}
        {files : Files (DiskSource F) K} {count : ℕ} (transfers : Transfers sources sinks most port job before s files count)
        → BeginsFor sources sinks transfers → is_complete s.end.position.phase ≡ true
        → IsSentFrom job files count (moved_by sources sinks transfers).bytes
    was_read in_order {job = job} {files = files} {count = count} (inl run) begins done =
        run_sent in_order job job.kind run.length count run.runs.file files run.runs.converses run.side done begins
    was_read in_order {job = job} {files = files} {count = count} (inr again) begins done =
        search (rules, of_plain, run_moves, nothing_moved, run_sent, plain, to_plain)

    pub sends_what_reads_returned : GivesInOrder sources → SendsWhatReadsReturned sources sinks
    sends_what_reads_returned in_order most port job before s files count transfers begins done =
        was_read in_order transfers begins done

    pub sends_the_text_whole : GivesInOrder sources → SendsTheTextWhole sources sinks
    sends_the_text_whole in_order most port job before s files count text transfers begins done netascii still =
        search (rules, of_text, was_read)
