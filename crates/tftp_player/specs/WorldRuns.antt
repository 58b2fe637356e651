-- Every run of a world.
use Rattle.std.specs.Prelude.{◌≡◌, ℕ, Bool, false, List, [], ◌∷◌}
use Rattle.tftp_player.specs.Common.{Config, IsBlockSize, Event, Stray, Report}
use Rattle.tftp_player.specs.World.{WorldState, StoredFile, new_world}
use Rattle.tftp_player.specs.WorldSteps.{WorldStep}
use Rattle.tftp_player.specs.WorldSafety.{IsSafe, HasPeersAtHome}
use Rattle.tftp_player.specs.WorldKept.{Refines, RefinesWithin}

-- the events happened one after another; a refused event changes nothing and is not listed
abbrev pub PlaysAll : WorldState → List Event → WorldState → Type 0
PlaysAll old [] new = new ≡ old
PlaysAll old (event ∷ events) new =
    (mid : WorldState) × (report : Report) × WorldStep old event report mid
    × PlaysAll mid events new

-- the event may happen, by whether there are strangers
abbrev pub MayHappen : Bool → Event → Type 0
MayHappen false (Stray from to bytes) = ⊥
MayHappen strangers event = Unit {0}

-- each of them may happen
abbrev pub MayAllHappen : Bool → List Event → Type 0
MayAllHappen strangers [] = Unit {0}
MayAllHappen strangers (event ∷ events) = MayHappen strangers event × MayAllHappen strangers events

-- whatever happens, the world stays safe
abbrev pub WorldsAreSafe : Type 0
WorldsAreSafe =
    (files : List StoredFile) (config : Config) (events : List Event) (w : WorldState) →
    IsBlockSize config.limits.max_block → PlaysAll (new_world files config) events w → IsSafe w

-- without strangers every peer is at one of the two hosts
abbrev pub PeersStayHome : Type 0
PeersStayHome =
    (files : List StoredFile) (config : Config) (events : List Event) (w : WorldState) →
    IsBlockSize config.limits.max_block → MayAllHappen false events →
    PlaysAll (new_world files config) events w → HasPeersAtHome w

-- the invariant holds of a world in which nothing has happened
abbrev pub NewWorldsBegin : Type 0
NewWorldsBegin =
    (strangers : Bool) (files : List StoredFile) (config : Config) →
    IsBlockSize config.limits.max_block → Refines strangers (new_world files config)

-- a step preserves the invariant
abbrev pub StepsKeep : Type 0
StepsKeep =
    (strangers : Bool) (old new : WorldState) (event : Event) (report : Report) →
    MayHappen strangers event → Refines strangers old → WorldStep old event report new →
    Refines strangers new

-- the most rules of the guarded machine that an event is: a waiting reader learns its peer, stores
-- a part of DATA 1 and gives up; a stranger sends before
abbrev pub most_rules : Event → ℕ
most_rules (Stray from to bytes) = 4
most_rules event = 3

-- a step is that many rules at most: each by its guard, from the machine that the old world refines
-- to one that the new world refines
abbrev pub StepsAreRules : Type 0
StepsAreRules =
    (strangers : Bool) (old new : WorldState) (event : Event) (report : Report) →
    MayHappen strangers event → (ok : Refines strangers old) → WorldStep old event report new →
    RefinesWithin (most_rules event) ok.shown.0 strangers new

-- the invariant makes a world safe
abbrev pub KeptIsSafe : Type 0
KeptIsSafe = (strangers : Bool) (w : WorldState) → Refines strangers w → IsSafe w
