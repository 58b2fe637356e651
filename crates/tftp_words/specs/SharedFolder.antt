-- A folder that several programs share, by the calls that they asked of the system on its files: of
-- two files that got one name, which has it (ours).
use Rattle.tftp_words.specs.Common.{DiskEvent, FileState, Made, Linked, Renamed, AllLeave, Limits}
use Rattle.tftp_words.specs.Common.{IsStoredAt, path_below}
use Rattle.std.specs.Prelude.{ℕ, ◌≡◌, ◌≢◌, ◌⊎◌, ◌==◌, ⊤, Bool, true, false, if◌then◌else◌, List, []}
use Rattle.std.specs.Prelude.{◌∷◌, ◌++◌, map, Ok, Err}
use Rattle.std.specs.IoError.{error_kind}
use Rattle.tftp_disk.specs.DiskTrace.DiskEvent.{Looked}
use Rattle.tftp_folder.specs.Commit.{IsFreeLocked, lock_of}
use Rattle.tftp_folder.specs.Locks.{KeepLock}
use Rattle.std.specs.declared.io.ErrorKind.TheVariants as kinds

-- a call of the system, and the program that asked it, by a number
abbrev pub FolderCall : Type 0
FolderCall = ℕ × DiskEvent

-- what one program asked, of the calls of all
abbrev pub calls_by : ℕ → List FolderCall → List DiskEvent
calls_by program [] = []
calls_by program (call ∷ order) =
    if call.0 == program then call.1 ∷ calls_by program order else calls_by program order

-- the call gave a file this name
pub data GivesTo (path : List ℕ) (call : DiskEvent) : Type 0 where
  Makes : call ≡ Made path (Ok tt) → GivesTo path call
  Links : (file : FileState) (from : List ℕ) → call ≡ Linked file from path (Ok tt)
      → GivesTo path call
  Renames : (file : FileState) (from : List ℕ) → call ≡ Renamed file from path (Ok tt)
      → GivesTo path call

-- each of these calls leaves what has the name: it does not take it away, and gives it to no other
abbrev pub AllLeaveIt : List ℕ → List FolderCall → Type 0
AllLeaveIt path order = AllLeave path (map (λ (call : FolderCall). call.1) order)

-- by these calls, the newest first, a file has the name: one got it, and each call since left it
pub record HasName (path : List ℕ) (order : List FolderCall) : Type 0 where
  pub since : List FolderCall
  pub program : ℕ
  pub call : DiskEvent
  pub before : List FolderCall
  pub is : order ≡ since ++ (program, call) ∷ before
  pub gives : GivesTo path call
  pub left : AllLeaveIt path since

-- the answer of a call agrees with the calls before it: a file is made, or gets a name by a link,
-- only where no file has that; and a look that finds no file is at a name that none has
abbrev pub Agrees : DiskEvent → List FolderCall → Type 0
Agrees (Made path (Ok done)) before = HasName path before → ⊥
Agrees (Linked file from to (Ok done)) before = HasName to before → ⊥
Agrees (Looked path (Err error)) before =
    error_kind error ≡ kinds.NotFound → HasName path before → ⊥
Agrees event before = ⊤

-- the answers of all calls do: what the system must promise of the folder. Of a program that
-- changes it otherwise the calls are in the order, too
abbrev pub AnswersAgree : List FolderCall → Type 0
AnswersAgree [] = ⊤
AnswersAgree (call ∷ before) = Agrees call.1 before × AnswersAgree before

-- each program of the order removes the lock at this path, or renames a file to it or away from it,
-- only while it holds it, by its own calls: a store of ours does, if it keeps within its limits
abbrev pub AllKeepLock : List ℕ → List FolderCall → Type 0
AllKeepLock lock order = (program : ℕ) → KeepLock lock (calls_by program order)

-- a file was put at this place, which the order of all calls shows: it has those of the store that
-- put it, and may have later ones of the same program
pub record IsPutIn (order : List FolderCall) (target : List ℕ) (program : ℕ) (replaces : Bool)
    : Type 0 where
  pub limits : Limits
  pub path : List ℕ
  pub place : path_below limits.root path ≡ target
  pub bytes : List ℕ
  pub before : List DiskEvent
  pub after : List DiskEvent
  pub stored : IsStoredAt limits path bytes replaces before after
  pub later : List DiskEvent
  pub asked : calls_by program order ≡ later ++ after

-- the call is a link to this name
abbrev pub IsLinkTo : List ℕ → DiskEvent → Type 0
IsLinkTo path call =
    (file : FileState) × (from : List ℕ) × (call ≡ Linked file from path (Ok tt))

-- the call of a program by which its file got the name
pub record IsNamed (order : List FolderCall) (target : List ℕ) (program : ℕ) (replaces : Bool)
    : Type 0 where
  pub newer : List FolderCall
  pub call : DiskEvent
  pub older : List FolderCall
  pub at : order ≡ newer ++ (program, call) ∷ older
  pub gives : GivesTo target call
  -- if it may replace no file, it is a link, which never does; or a rename just after the name was
  -- locked and a look found no file there, on a file system without hard links
  pub free : replaces ≡ false →
      IsLinkTo target call ⊎ IsFreeLocked target (calls_by program older)

-- the call gives the name to a file with just these bytes, all of which are synced
pub record GivesFile (target bytes : List ℕ) (call : DiskEvent) : Type 0 where
  pub file : FileState
  pub from : List ℕ
  pub is : (call ≡ Linked file from target (Ok tt)) ⊎ (call ≡ Renamed file from target (Ok tt))
  pub content : file.written ≡ bytes
  pub synced : file.is_synced ≡ true

-- a file that was put got the name by such a call, and is the one with the bytes that were put
abbrev pub PutsNameTheirFiles : Type 0
PutsNameTheirFiles =
    (order : List FolderCall) (target : List ℕ) (program : ℕ) (replaces : Bool)
    (put : IsPutIn order target program replaces)
    → (named : IsNamed order target program replaces) × GivesFile target put.bytes named.call

-- a file that was put got the name by such a call
abbrev pub PutsAreNamed : Type 0
PutsAreNamed =
    (order : List FolderCall) (target : List ℕ) (program : ℕ) (replaces : Bool)
    → IsPutIn order target program replaces → IsNamed order target program replaces

module _ {order : List FolderCall} {target : List ℕ} {i j : ℕ} {may_replace replaces : Bool}
    (first : IsNamed order target i may_replace) (second : IsNamed order target j replaces) where
  -- the second file was renamed to the name after the first got it, and was looked at before that:
  -- its program asked nothing between. If all keep the name's lock, the first got it without that:
  -- by a link, or since its program may replace files
  pub record Overlaps (between : List FolderCall) : Type 0 where
    pub other : i ≢ j
    pub renamed : IsLinkTo target second.call → ⊥
    pub nothing : calls_by j between ≡ []
    pub unlocked : AllKeepLock (lock_of target) order
        → IsLinkTo target first.call ⊎ (may_replace ≡ true)

  -- the second file got the name later
  pub record IsLater : Type 0 where
    pub between : List FolderCall
    pub after : second.older ≡ between ++ (i, first.call) ∷ first.older
    -- so the first does not have it at the end
    pub lost : AllLeaveIt target first.newer → ⊥
    -- if the second may replace no file, a call between took the name from the first; unless the
    -- system refused it a hard link, and the first got the name meanwhile
    pub taken : replaces ≡ false → AllLeaveIt target between → Overlaps between

-- of two files that got one name, in an order with whose calls the answers agree: they are one, or
-- one got it later, and that one alone can have it at the end
abbrev pub OneHasTheName : Type 0
OneHasTheName =
    (order : List FolderCall) (target : List ℕ) (i j : ℕ) (may_replace replaces : Bool)
    → AnswersAgree order
    → (first : IsNamed order target i may_replace)
    → (second : IsNamed order target j replaces)
    → ((i ≡ j) × (first.older ≡ second.older)) ⊎ IsLater first second ⊎ IsLater second first
