-- Two programs that share a folder: one makes its temporary file while the other holds its own,
-- which then gets its name. The premises of `no_put_takes_anothers_file` hold of their calls
-- (ours).
use Rattle.tftp_words.specs.Common.{FileState, Made, Linked, Removed, IsDraftIn, path_below}
use Rattle.std.specs.Prelude.{ℕ, ◌≡◌, true, false, List, [], ◌∷◌, Some, Ok, codes}
use Rattle.tftp_folder.specs.Begin.{draft_name}
use Rattle.tftp_words.specs.SharedDrafts.{AreStores, Holds, IsHeldAlone, IsNaming}
use Rattle.tftp_words.specs.SharedFolder.{FolderCall, calls_by}

-- the folder, the paths of the temporary files there, and the name of the file
abbrev pub shared_root : List ℕ
shared_root = codes "/u"

abbrev pub draft_path : ℕ → List ℕ
draft_path port = draft_name shared_root port

abbrev pub shared_name : List ℕ
shared_name = path_below shared_root (codes "a")

-- the file that the first call of 0 made
abbrev pub shared_file : FileState
shared_file =
    record {
      made_at = Some (draft_path 1);
      made_when = Some 0;
      written = [];
      is_synced = true;
      sync_failed = false;
      modes = [];
    }

-- the calls of both, the newest first
abbrev pub shared_calls : List FolderCall
shared_calls =
    (0, Removed (draft_path 1) (Ok tt)) ∷ (0, Linked shared_file (draft_path 1) shared_name (Ok tt))
    ∷ (1, Made (draft_path 2) (Ok tt)) ∷ (0, Made (draft_path 1) (Ok tt)) ∷ []

-- the premises hold of them and of the file of 0, which it holds while 1 makes its own
pub record ShareAFolder : Type 0 where
  pub is_draft : IsDraftIn shared_root (draft_path 1)
  pub stores : AreStores shared_calls
  pub alone : IsHeldAlone shared_calls (draft_path 1)
  pub held : Holds shared_calls (draft_path 1) 0
  pub meanwhile : calls_by 1 held.between ≡ Made (draft_path 2) (Ok tt) ∷ []
  pub names : IsNaming held.last shared_file (draft_path 1)
