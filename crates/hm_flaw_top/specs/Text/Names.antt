-- The words of rules, each by the driver that leaves the rule out, and of the parts of legality.
use Rattle.std.specs.Prelude.{◌≡◌, ◌↔◌, ℕ, Option, Some, List, [], ◌∷◌, codes}
use Rattle.std.specs.List.{find}
use Rattle.std.specs.Str.{bytes_eq}
use Rattle.hm_flaws.specs.declared.flaws.Flaw.{Flaw}
use Rattle.hm_flaws.specs.declared.parts.Part.{Part}

-- the word of a rule of the memory manager's own
abbrev pub manager_name : Flaw → List ℕ
manager_name Flaw.ToldLast = codes "tell-first"
manager_name Flaw.EndedAtOnce = codes "end-last"
manager_name Flaw.ForkedWhole = codes "fork-narrows"
manager_name Flaw.ReplacedAnyway = codes "fault-looks-again"
manager_name Flaw.DeviceAccessed = codes "bring-home"
manager_name Flaw.OthersLeft = codes "freeze-others"
manager_name Flaw.FrozenLate = codes "freeze-first"
manager_name Flaw.FreshAnyway = codes "fresh-looks-again"
manager_name Flaw.FreshForWrites = codes "fresh-right"
manager_name Flaw.BackForWrites = codes "back-right"
manager_name Flaw.LockedTaken = codes "lock-page"
manager_name Flaw.NotPutBack = codes "put-back"
manager_name Flaw.UnnamedHeld = codes "drop-unnamed"
manager_name l = []

-- the word of the rule that the driver leaves out, or the memory manager does; of the right driver `right`
abbrev pub name_of : Flaw → List ℕ
name_of Flaw.NoFlaw = codes "right"
name_of Flaw.NotCompared = codes "compare"
name_of Flaw.ComparedNow = codes "compare-sequence"
name_of Flaw.AllForWrites = codes "entry-right"
name_of Flaw.WalksUnlocked = codes "mmap-lock"
name_of Flaw.AnyDevice = codes "own-device"
name_of Flaw.BegunAnyway = codes "begin-waits"
name_of Flaw.BegunLast = codes "begin-first"
name_of Flaw.SequenceLeft = codes "set-sequence"
name_of Flaw.TableLeft = codes "erase"
name_of Flaw.FirstErased = codes "erase-all"
name_of Flaw.ErasedAtEnd = codes "erase-in-time"
name_of Flaw.OwnIgnored = codes "own-events"
name_of Flaw.OwnSequenceLeft = codes "own-sequence"
name_of Flaw.OwnTableLeft = codes "own-entries"
name_of Flaw.UsedDetached = codes "stop-at-detach"
name_of Flaw.ReadsWritten = codes "write-entry"
name_of Flaw.DetachedAtOnce = codes "detach-waits"
name_of Flaw.PartCopied = codes "copy-all"
name_of Flaw.NotCleared = codes "clear"
name_of Flaw.LostAsMoved = codes "set-moved"
name_of Flaw.OwnForWrites = codes "set-right"
name_of Flaw.OwnAnyway = codes "set-unless-invalidated"
name_of Flaw.LostHeld = codes "drop-lost"
name_of Flaw.WithdrawnTaken = codes "take-from-there"
name_of Flaw.RemovedAtOnce = codes "evict-first"
name_of Flaw.NotWithdrawn = codes "withdraw-first"
name_of Flaw.LockedPassed = codes "wait-for-locked"
name_of Flaw.SoleAnyway = codes "exclusive-waits"
name_of Flaw.AddedAnyway = codes "look-again"
name_of l = manager_name l

-- all drivers, the right one first, in the order in which their lines are written
abbrev pub all_flaws : List Flaw
all_flaws =
    Flaw.NoFlaw
    ∷ Flaw.NotCompared
    ∷ Flaw.ComparedNow
    ∷ Flaw.AllForWrites
    ∷ Flaw.WalksUnlocked
    ∷ Flaw.AnyDevice
    ∷ Flaw.BegunAnyway
    ∷ Flaw.BegunLast
    ∷ Flaw.SequenceLeft
    ∷ Flaw.TableLeft
    ∷ Flaw.FirstErased
    ∷ Flaw.ErasedAtEnd
    ∷ Flaw.OwnIgnored
    ∷ Flaw.OwnSequenceLeft
    ∷ Flaw.OwnTableLeft
    ∷ Flaw.UsedDetached
    ∷ Flaw.ReadsWritten
    ∷ Flaw.DetachedAtOnce
    ∷ Flaw.PartCopied
    ∷ Flaw.NotCleared
    ∷ Flaw.LostAsMoved
    ∷ Flaw.OwnForWrites
    ∷ Flaw.OwnAnyway
    ∷ Flaw.LostHeld
    ∷ Flaw.WithdrawnTaken
    ∷ Flaw.RemovedAtOnce
    ∷ Flaw.NotWithdrawn
    ∷ Flaw.LockedPassed
    ∷ Flaw.SoleAnyway
    ∷ Flaw.AddedAnyway
    ∷ Flaw.ToldLast
    ∷ Flaw.EndedAtOnce
    ∷ Flaw.ForkedWhole
    ∷ Flaw.ReplacedAnyway
    ∷ Flaw.DeviceAccessed
    ∷ Flaw.OthersLeft
    ∷ Flaw.FrozenLate
    ∷ Flaw.FreshAnyway
    ∷ Flaw.FreshForWrites
    ∷ Flaw.BackForWrites
    ∷ Flaw.LockedTaken
    ∷ Flaw.NotPutBack
    ∷ Flaw.UnnamedHeld
    ∷ []

-- the driver that the word names
unfoldable pub flaw_named : List ℕ → Option Flaw
flaw_named w = find (λ l. bytes_eq (name_of l) w) all_flaws

-- a word names a driver if and only if it is its own
abbrev pub NamesAreTheirs : Type 0
NamesAreTheirs = (w : List ℕ) (l : Flaw) → (flaw_named w ≡ Some l) ↔ (name_of l ≡ w)

-- the word of a part of legality
abbrev pub part_text : Part → List ℕ
part_text Part.Answers = codes "answers"
part_text Part.Places = codes "places"
part_text Part.Frames = codes "frames"
part_text Part.Sequences = codes "sequences"
part_text Part.Untold = codes "untold"
part_text Part.Guarded = codes "guarded"
part_text Part.Kept = codes "kept"
