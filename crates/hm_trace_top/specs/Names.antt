-- The words of rules, as docs/BROKEN.md has them.
use Rattle.std.specs.Prelude.{◌≡◌, ◌↔◌, ℕ, List, Option, Some, codes}
use Rattle.std.specs.List.{find}
use Rattle.std.specs.Str.{bytes_eq}
use Rattle.hm_protocol.specs.Rules.{all_rules}
use Rattle.hm_protocol.specs.declared.rules.Rule.{Rule}

-- the word of a rule
abbrev pub rule_name : Rule → List ℕ
rule_name Rule.Compare = codes "compare"
rule_name Rule.CompareSequence = codes "compare-sequence"
rule_name Rule.EntryRight = codes "entry-right"
rule_name Rule.MmapLock = codes "mmap-lock"
rule_name Rule.OwnDevice = codes "own-device"
rule_name Rule.BeginWaits = codes "begin-waits"
rule_name Rule.BeginFirst = codes "begin-first"
rule_name Rule.SetSequence = codes "set-sequence"
rule_name Rule.Erase = codes "erase"
rule_name Rule.EraseAll = codes "erase-all"
rule_name Rule.EraseInTime = codes "erase-in-time"
rule_name Rule.OwnEvents = codes "own-events"
rule_name Rule.OwnSequence = codes "own-sequence"
rule_name Rule.OwnEntries = codes "own-entries"
rule_name Rule.StopAtDetach = codes "stop-at-detach"
rule_name Rule.WriteEntry = codes "write-entry"
rule_name Rule.DetachWaits = codes "detach-waits"
rule_name Rule.SetMoved = codes "set-moved"
rule_name Rule.SetRight = codes "set-right"
rule_name Rule.SetUnlessInvalidated = codes "set-unless-invalidated"
rule_name Rule.DropLost = codes "drop-lost"
rule_name Rule.TakeFromThere = codes "take-from-there"
rule_name Rule.EvictFirst = codes "evict-first"
rule_name Rule.WithdrawFirst = codes "withdraw-first"
rule_name Rule.WaitForLocked = codes "wait-for-locked"
rule_name Rule.ExclusiveWaits = codes "exclusive-waits"
rule_name Rule.LookAgain = codes "look-again"

-- the rule that a word names
unfoldable pub rule_named : List ℕ → Option Rule
rule_named w = find (λ r. bytes_eq (rule_name r) w) all_rules

-- a word names a rule if and only if it is its own
abbrev pub NamesAreTheirs : Type 0
NamesAreTheirs = (w : List ℕ) (r : Rule) → (rule_named w ≡ Some r) ↔ (rule_name r ≡ w)

-- the place of a rule among all
abbrev pub place_of : Rule → ℕ
place_of Rule.Compare = 0
place_of Rule.CompareSequence = 1
place_of Rule.EntryRight = 2
place_of Rule.MmapLock = 3
place_of Rule.OwnDevice = 4
place_of Rule.BeginWaits = 5
place_of Rule.BeginFirst = 6
place_of Rule.SetSequence = 7
place_of Rule.Erase = 8
place_of Rule.EraseAll = 9
place_of Rule.EraseInTime = 10
place_of Rule.OwnEvents = 11
place_of Rule.OwnSequence = 12
place_of Rule.OwnEntries = 13
place_of Rule.StopAtDetach = 14
place_of Rule.WriteEntry = 15
place_of Rule.DetachWaits = 16
place_of Rule.SetMoved = 17
place_of Rule.SetRight = 18
place_of Rule.SetUnlessInvalidated = 19
place_of Rule.DropLost = 20
place_of Rule.TakeFromThere = 21
place_of Rule.EvictFirst = 22
place_of Rule.WithdrawFirst = 23
place_of Rule.WaitForLocked = 24
place_of Rule.ExclusiveWaits = 25
place_of Rule.LookAgain = 26
