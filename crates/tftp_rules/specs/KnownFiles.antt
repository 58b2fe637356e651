-- Files of known content: the wire text that a source has left, and what a sink holds. A read may
-- fail, and a call of a sink may be refused.
use Rattle.std.specs.Prelude.{List, ℕ, Some, ⊤}
use Rattle.tftp_file.specs.Source.{SourceMeaning}
use Rattle.tftp_file.specs.Sink.{Holding, SinkMeaning}

-- a source whose text is known; each fill may return Read, and none must
abbrev pub known_source : SourceMeaning (List ℕ)
known_source =
    record {
      left = λ text. Some text;
      may_fail = λ text want. ⊤;
      fails = λ text want. ⊥;
      gives = λ text piece rest. ⊤;
      opens = λ root path mode length text. ⊤;
    }

-- a sink whose content is known; each append and each commit may return any fault
abbrev pub known_sink : SinkMeaning Holding
known_sink =
    record {
      held = λ holding. Some holding;
      may_refuse_append = λ holding bytes fault. ⊤;
      may_refuse_commit = λ holding fault. ⊤;
      becomes = λ before after committed. ⊤;
      after_append = λ before bytes after fault. ⊤;
      after_commit = λ before after fault. ⊤;
    }
