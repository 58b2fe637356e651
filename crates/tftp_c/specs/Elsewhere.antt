-- The store of a server whose files are its caller's: it has no file, and refuses every call.
use Rattle.std.specs.Prelude.{ℕ, ◌≡◌, [], Option, None, ⊤}
use Rattle.tftp_file.specs.declared.files.Files.{Files}
use Rattle.tftp_file.specs.declared.files.Files.TheVariants.{Source, Sink}
use Rattle.tftp_c.specs.declared.elsewhere.Absent.{Absent}
use Rattle.tftp_file.specs.Source.{SourceMeaning}
use Rattle.tftp_file.specs.declared.fault.StoreFault.TheVariants.{Io}
use Rattle.tftp_store.specs.Store.{StoreMeaning}

-- a source that always fails
abbrev pub no_source : {F : Type 0} → SourceMeaning F
no_source =
    record {
      left = λ source. None;
      may_fail = λ source want. ⊤;
      fails = λ source want. ⊤;
      gives = λ source piece rest. ⊤;
      opens = λ root path mode length source. ⊤;
    }

-- a store that refuses every call
abbrev pub no_store : {S D : Type 0} → StoreMeaning S D
no_store =
    record {
      root = λ s. [];
      is_set_to = λ s port. ⊤;
      stored = λ s. None;
      drafted = λ draft. None;
      may_refuse_open = λ s path fault. fault ≡ Io;
      may_refuse_begin = λ s path replace fault. fault ≡ Io;
      must_refuse_open = λ s path fault. fault ≡ Io;
      must_fail = λ s path want. ⊥;
      begun = λ path replace before after result. ⊤;
      after_append = λ before draft bytes after draft' fault. ⊤;
      after_commit = λ before path draft replace after draft' fault. ⊤;
      after_write_behind = λ before after. ⊤;
      writes_behind = λ draft draft'. ⊤;
      may_refuse_append = λ s draft bytes fault. fault ≡ Io;
      may_refuse_commit = λ s path draft replace fault. fault ≡ Io;
    }

-- the length of the file of a transfer, if one was stated
abbrev pub stated_in_files : Files Absent Absent → Option ℕ
stated_in_files (Source file) = file.stated
stated_in_files (Sink file) = file.stated
