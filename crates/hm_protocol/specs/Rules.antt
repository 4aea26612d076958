-- Which rules a trace breaks, and where.
use Rattle.std.specs.Prelude.{ℕ, Bool, true, false, not, ◌||◌, if◌then◌else◌, Option, Some, None, is_some, option_map}
use Rattle.std.specs.Prelude.{List, [], ◌∷◌, find}
use Rattle.hm_protocol.specs.declared.events.Traced.{Traced}
use Rattle.hm_protocol.specs.declared.rules.Rule.{Rule}
use Rattle.hm_protocol.specs.declared.rules.Joint.{Joint}
use Rattle.hm_protocol.specs.Words.{is_empty}
use Rattle.hm_protocol.specs.Known.{Call, Known, known_start}
use Rattle.hm_protocol.specs.Noted.{known_next, known}
use Rattle.hm_protocol.specs.Tests as tests
use Rattle.hm_protocol.specs.Callbacks as callbacks

-- the position of the first event that is wrong
abbrev pub first_wrong : (Known → Traced → Bool) → Known → List Traced → Option ℕ
first_wrong test k [] = None
first_wrong test k (s ∷ ss) = elim (test k s) [ true ↦ Some k.at | false ↦ first_wrong test (known_next k s) ss ]

-- the return of the first callback that is wrong
abbrev pub first_call : (Known → Call → Bool) → Known → Option ℕ
first_call test k = option_map (λ x. x.at) (find (test k) k.calls)

-- the first of these commits
abbrev pub first_commit : (Bool → Bool) → Known → Option ℕ
first_commit test k = option_map (λ x. x.0) (find (λ x. test x.1) k.stale)

-- how a rule is broken: by an event, by a callback, or by what is known in the end
pub data Test : Type 0 where
  At : (test : Known → Traced → Bool) → Test
  Of : (test : Known → Call → Bool) → Test
  End : (test : Known → Option ℕ) → Test

-- `compare`: a look-up is committed, though its mirror was told since it began, and that invalidation is under way
abbrev pub compare : Known → Option ℕ
compare k = first_commit (λ goes_on. goes_on) k

-- `compare-sequence`: the invalidation is over, and such look-ups are given up
abbrev pub compare_sequence : Known → Option ℕ
compare_sequence k = if is_some (compare k) || is_empty k.given_up then None else first_commit not k

-- the joint rule of the two
abbrev pub stale_commit : Known → Option ℕ
stale_commit k = first_commit (λ goes_on. true) k

-- `begin-waits`: a look-up has the sequence of an invalidation under way
abbrev pub begin_waits : Known → Option ℕ
begin_waits k = option_map (λ x. x.at) (find (λ x. true) k.early)

-- the test of a rule
abbrev pub test_of : Rule → Test
test_of Rule.Compare = Test.End compare
test_of Rule.CompareSequence = Test.End compare_sequence
test_of Rule.EntryRight = Test.At tests.entry_right
test_of Rule.MmapLock = Test.At tests.mmap_lock
test_of Rule.OwnDevice = Test.At tests.own_device
test_of Rule.BeginWaits = Test.End begin_waits
test_of Rule.BeginFirst = Test.At tests.begin_first
test_of Rule.SetSequence = Test.Of callbacks.set_sequence
test_of Rule.Erase = Test.Of callbacks.erase
test_of Rule.EraseAll = Test.Of callbacks.erase_all
test_of Rule.EraseInTime = Test.Of callbacks.erase_in_time
test_of Rule.OwnEvents = Test.Of callbacks.own_events
test_of Rule.OwnSequence = Test.Of callbacks.own_sequence
test_of Rule.OwnEntries = Test.Of callbacks.own_entries
test_of Rule.StopAtDetach = Test.At tests.stop_at_detach
test_of Rule.WriteEntry = Test.At tests.write_entry
test_of Rule.DetachWaits = Test.At tests.detach_waits
test_of Rule.SetMoved = Test.At tests.set_moved
test_of Rule.SetRight = Test.At tests.set_right
test_of Rule.SetUnlessInvalidated = Test.At tests.set_unless_invalidated
test_of Rule.DropLost = Test.At tests.drop_lost
test_of Rule.TakeFromThere = Test.At tests.take_from_there
test_of Rule.EvictFirst = Test.At tests.evict_first
test_of Rule.WithdrawFirst = Test.At tests.withdraw_first
test_of Rule.WaitForLocked = Test.At tests.wait_for_locked
test_of Rule.ExclusiveWaits = Test.At tests.exclusive_waits
test_of Rule.LookAgain = Test.At tests.look_again

-- the test of a joint rule
abbrev pub joint_test : Joint → Test
joint_test Joint.StaleCommit = Test.End stale_commit
joint_test Joint.EntriesLeft = Test.Of callbacks.entries_left
joint_test Joint.OwnSequenceLeft = Test.Of callbacks.own_sequence_left

-- where a test is failed
abbrev pub fails : Test → List Traced → Option ℕ
fails (Test.At test) es = first_wrong test known_start es
fails (Test.Of test) es = first_call test (known es)
fails (Test.End test) es = test (known es)

-- where a rule is broken
abbrev pub broken : Rule → List Traced → Option ℕ
broken r es = fails (test_of r) es

-- the rules, as docs/BROKEN.md has them
abbrev pub all_rules : List Rule
all_rules =
    Rule.Compare
    ∷ Rule.CompareSequence
    ∷ Rule.EntryRight
    ∷ Rule.MmapLock
    ∷ Rule.OwnDevice
    ∷ Rule.BeginWaits
    ∷ Rule.BeginFirst
    ∷ Rule.SetSequence
    ∷ Rule.Erase
    ∷ Rule.EraseAll
    ∷ Rule.EraseInTime
    ∷ Rule.OwnEvents
    ∷ Rule.OwnSequence
    ∷ Rule.OwnEntries
    ∷ Rule.StopAtDetach
    ∷ Rule.WriteEntry
    ∷ Rule.DetachWaits
    ∷ Rule.SetMoved
    ∷ Rule.SetRight
    ∷ Rule.SetUnlessInvalidated
    ∷ Rule.DropLost
    ∷ Rule.TakeFromThere
    ∷ Rule.EvictFirst
    ∷ Rule.WithdrawFirst
    ∷ Rule.WaitForLocked
    ∷ Rule.ExclusiveWaits
    ∷ Rule.LookAgain
    ∷ []

-- the joint rules
abbrev pub all_joint : List Joint
all_joint = Joint.StaleCommit ∷ Joint.EntriesLeft ∷ Joint.OwnSequenceLeft ∷ []
