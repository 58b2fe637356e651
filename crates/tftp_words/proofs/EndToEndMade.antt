-- What the file of a complete get was handed is what the server's source gave, and what that of a complete put gave is
-- what the server's draft was handed.
use Rattle.tftp_words.proofs.Common.{rules, ◌≡◌, ℕ, List, [], ◌++◌, length, refl, sym, ap, ◌∙◌, subst, Mode, Kind}
use Rattle.tftp_words.proofs.Common.{wire_text, SinkMeaning, SourceMeaning, Files, Source, Sink, ClientRead}
use Rattle.tftp_words.proofs.Common.{ClientWrite, DiskEvent, StoreMeaning, Moved, IsFileOf, FolderStore, alone}
use Rattle.tftp_words.proofs.Common.{KeepAnyFiles, moved_in, StoreBegan, StoreOpened, Programs, FileDone, GotFile}
use Rattle.tftp_words.proofs.Common.{PutFile, WordsMoveFiles, SeveralMoveFiles, Job, side_of}
use Rattle.std.proofs.Common.{append-nil}
use Rattle.tftp_file.specs.Path.{path_of_name}
use Rattle.tftp_file.specs.Source.{GivesInTurn}
use Rattle.tftp_ends.specs.End.{is_sender}
use Rattle.tftp_promises.specs.AnyFiles.{HasGot, HasPut}
use Rattle.tftp_promises.specs.Openings.{moved_at}
use Rattle.tftp_words.specs.OverSeveral.{FileThere}
use Rattle.tftp_words.specs.WordsKept.{SeveralKeepAnyFiles, WordsKeepAnyFiles}
use Rattle.tftp_words.proofs.Following.{one_then, several_then}
use Rattle.tftp_words.proofs.LastPrograms.{IsDoneBy, all_hold}

-- a job whose file is received reads
reads_then : {S K : Type 0} (inputs : SourceMeaning S) (outputs : SinkMeaning K) (kind : Kind) (sink : K) →
    IsFileOf inputs outputs kind (Sink sink) → side_of kind ≡ ClientRead
reads_then inputs outputs kind sink of = search rules

-- and one whose file is sent writes
writes_then : {S K : Type 0} (inputs : SourceMeaning S) (outputs : SinkMeaning K) (kind : Kind) (source : S) →
    IsFileOf inputs outputs kind (Source source) → side_of kind ≡ ClientWrite
writes_then inputs outputs kind source of = search rules

module _ {S F D G K : Type 0} {stores : StoreMeaning S D} {sources : SourceMeaning F} {inputs : SourceMeaning G}
    {outputs : SinkMeaning K} (programs : Programs stores sources inputs outputs) (keeps : KeepAnyFiles programs) (job : Job)
    (count : ℕ) (moved : Moved) where
  -- a program of the network that received the file of a job
  module _ (sink : K) (done : IsDoneBy programs.clients job (Sink sink) count moved) where
    side : done.program.first.role.side ≡ ClientRead
    side = done.runs.side ∙ reads_then inputs outputs job.kind sink done.of

    got : HasGot programs done.program
    got = keeps.got done.k done.program done.found (ap is_sender side) done.counted.complete

    wire : (moved_at programs got.peer programs.server.run).bytes ≡ wire_text job.mode moved.bytes
    wire = let sent = got.sent in let mode = done.runs.mode in let moves = done.moves in cc

    text : (moved_at programs got.peer programs.server.run).bytes ++ got.given.since.rest ≡ wire_text job.mode moved.bytes
    text = rw (got.no_more, append-nil) wire

    got_file : GotFile programs job count moved.bytes
    got_file = record {
      counted = counted;
      k = done.k;
      program = done.program;
      found = done.found;
      moved = ap (λ (m : Moved). m.bytes) done.moves;
      got = got;
      path = got.serves.transfer.path;
      named = ap path_of_name (sym done.runs.name) ∙ got.serves.path;
      opening = got.given.opening;
      opened =
          subst (λ (m : Mode). StoreOpened programs.server.run got.serves.transfer.path got.serves.transfer.request m
          got.given.opening) (got.same_mode ∙ done.runs.mode) got.given.first;
      source = got.given.source;
      held = got.given.is_source;
      gave =
          subst (λ (t : List ℕ). GivesInTurn sources got.given.opening.source t got.given.source) text
          got.given.since.given;
      measured = ap (λ (t : List ℕ). length t) (sym wire) ∙ got.measured;
    } where
      counted : count ≡ length moved.bytes
      counted = let counts = done.counted.received side in let moves = done.moves in cc

  -- one that sent it
  module _ (first_source : G) (done : IsDoneBy programs.clients job (Source first_source) count moved) where
    writer : done.program.first.role.side ≡ ClientWrite
    writer = done.runs.side ∙ writes_then inputs outputs job.kind first_source done.of

    put : HasPut programs done.program
    put = keeps.put done.k done.program done.found (ap is_sender writer) done.counted.complete

    bytes_moved : (moved_in done.program.runs).bytes ≡ moved.bytes
    bytes_moved = ap (λ (m : Moved). m.bytes) done.moves

    sent_text : (moved_in done.program.runs).bytes ++ put.given.since.rest ≡ moved.bytes
    sent_text = rw (put.no_more, append-nil) bytes_moved

    put_file : PutFile programs job count moved.bytes
    put_file = record {
      counted =
          λ octet. done.counted.sent writer (done.runs.mode ∙ octet)
          ∙ (sym put.measured ∙ ap (λ (bytes : List ℕ). length bytes) bytes_moved);
      k = done.k;
      program = done.program;
      found = done.found;
      moved = bytes_moved;
      put = put;
      first = put.given.first;
      is_first = put.given.is_first;
      source = put.given.source;
      held = put.given.is_source;
      gave =
          subst (λ (t : List ℕ). GivesInTurn inputs put.given.first t put.given.source) sent_text
          put.given.since.given;
      path = put.serves.transfer.path;
      named = ap path_of_name (sym done.runs.name) ∙ put.serves.path;
      began_with = put.taken.began_with;
      began =
          subst (λ (m : Mode). StoreBegan programs.server.run put.serves.transfer.path put.serves.transfer.request m
          programs.server.start.server.config.overwrite put.taken.began_with) (put.same_mode ∙ done.runs.mode)
          put.taken.began;
      bytes = (moved_at programs put.peer programs.server.run).bytes;
      committed = put.taken.since.done put.complete;
      same =
          ap (λ (m : Mode). wire_text m (moved_at programs put.peer programs.server.run).bytes) (sym done.runs.mode)
          ∙ (put.stored ∙ bytes_moved);
    }

  -- a complete job of a program of the network
  pub file_done : (files : Files G K) → IsDoneBy programs.clients job files count moved →
      FileDone programs job files count moved.bytes
  file_done (Source source) done = put_file source done
  file_done (Sink sink) done = got_file sink done

-- from the words
module _ {R G H W F D I K : Type 0} {log : R → List DiskEvent} {stores : StoreMeaning (FolderStore R G H W) D}
    {sources : SourceMeaning F} {inputs : SourceMeaning I} {outputs : SinkMeaning K} where
  pub words_move : WordsKeepAnyFiles log stores sources inputs outputs → WordsMoveFiles log stores sources inputs outputs
  words_move keep server port clients =
      one_then (λ programs ran keeps. (
        keeps,
        all_hold programs.clients (FileDone programs)
            (λ job files count moved done. file_done programs keeps job count moved files done) [] clients programs.clients
            refl ran.of_clients,
      )) (keep server port clients)

  -- and from those of several servers: the client of a network of two did it there, too
  pub several_move : SeveralKeepAnyFiles log stores sources inputs outputs →
      SeveralMoveFiles log stores sources inputs outputs
  several_move keep ip port servers clients =
      several_then ip (λ several order ran keeps. all_hold several.clients (FileThere several order FileDone)
      (λ job files count moved done. record {
        k = done.k;
        client = done.program;
        found = done.found;
        runs = done.runs;
        with_each =
            λ i server at served.
            let kept = keeps.0 i server done.k done.program at done.found served in (
              kept,
              file_done (alone several i server done.program) kept job count moved files (record {
                of = done.of;
                k = 0;
                program = done.program;
                found = refl;
                runs = done.runs;
                counted = done.counted;
                moves = done.moves;
              }),
            );
      }) [] clients several.clients refl ran.of_clients) (keep ip port servers clients)
