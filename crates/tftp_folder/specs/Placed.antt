-- Which file has the path of a draft when it gets its name, by the calls of a store (ours).
use Rattle.std.specs.Prelude.{ℕ, ⊤, List, [], ◌∷◌, Option}
use Rattle.tftp_disk.specs.DiskTrace.{DiskEvent}
use Rattle.tftp_disk.specs.DiskTrace.DiskEvent.{Made, Linked, Renamed, Removed}
use Rattle.tftp_disk.specs.Still.{IsStillAt}
use Rattle.tftp_folder.specs.Begin.{IsDraftOf}

-- the calls up to each that makes, names or removes a file, whatever its answer: the newest first
abbrev pub placed : List DiskEvent → List (List DiskEvent)
placed [] = []
placed (Made path answer ∷ events) = (Made path answer ∷ events) ∷ placed events
placed (Linked file from to answer ∷ events) =
    (Linked file from to answer ∷ events) ∷ placed events
placed (Renamed file from to answer ∷ events) =
    (Renamed file from to answer ∷ events) ∷ placed events
placed (Removed path answer ∷ events) = (Removed path answer ∷ events) ∷ placed events
placed (event ∷ events) = placed events

-- of these calls, each up to one of them: a file that was to get a name was still at its path then
abbrev pub AreNamedThere : List (List DiskEvent) → Type 0
AreNamedThere [] = ⊤
AreNamedThere ((Linked file from to answer ∷ events) ∷ rest) =
    IsStillAt from file.made_when events × AreNamedThere rest
AreNamedThere ((Renamed file from to answer ∷ events) ∷ rest) =
    IsStillAt from file.made_when events × AreNamedThere rest
AreNamedThere (calls ∷ rest) = AreNamedThere rest

-- each file that was to get a name by these calls was still at its path then: since it was made no
-- call had removed it, renamed it or another over it, or made it anew
abbrev pub NamesThere : List DiskEvent → Type 0
NamesThere events = AreNamedThere (placed events)

-- if each file that was to get a name was still at its path by the calls before, each was by those
-- after
abbrev pub StaysThere : List DiskEvent → List DiskEvent → Type 0
StaysThere before after = NamesThere before → NamesThere after

-- calls after which a file that was still at another path than those of the draft of this port is
-- so
abbrev pub LeavesOthers : List ℕ → ℕ → List DiskEvent → List DiskEvent → Type 0
LeavesOthers folder port before after =
    (path : List ℕ) (when : Option ℕ) → ¬ IsDraftOf folder port path → IsStillAt path when before
    → IsStillAt path when after
