-- What is said of each rule after a trace.
use Rattle.std.specs.Prelude.{ℕ, ◌+◌, Bool, true, false, not, ◌&&◌, ◌||◌, nat_lt, ◌==◌, if◌then◌else◌, Option}
use Rattle.std.specs.Prelude.{Some, None, is_some, is_none, List, [], ◌∷◌, length, count_by}
use Rattle.std.specs.List.{list_any, list_all}
use Rattle.hm_protocol.specs.declared.events.Event.{Event}
use Rattle.hm_protocol.specs.declared.events.Traced.{Traced}
use Rattle.hm_protocol.specs.declared.events.Recorded.{Recorded}
use Rattle.hm_protocol.specs.declared.rules.Rule.{Rule}
use Rattle.hm_protocol.specs.declared.rules.Verdict.{Verdict}
use Rattle.hm_protocol.specs.Words.{private_to, is_after, is_empty, is_read, is_sole}
use Rattle.hm_protocol.specs.Known.{Stage, Call, Move, Known, known_start, in_span, is_noted, leaves_seq, is_own}
use Rattle.hm_protocol.specs.Known.{is_look_up}
use Rattle.hm_protocol.specs.Noted.{known_next, known}
use Rattle.hm_protocol.specs.Tests.{is_migrated_set, is_kept_back}
use Rattle.hm_protocol.specs.Callbacks.{entries_left, own_sequence_left, left_first}
use Rattle.hm_protocol.specs.Rules.{first_call, compare, stale_commit, broken}

-- ---- what was recorded

-- the functions of the driver are recorded that the rule is about
abbrev pub is_recorded : Recorded → Rule → Bool
is_recorded x Rule.Compare = x.set
is_recorded x Rule.CompareSequence = x.set
is_recorded x Rule.Erase = x.set && x.erase
is_recorded x Rule.EraseAll = x.set && x.erase
is_recorded x Rule.EraseInTime = x.set && x.erase
is_recorded x Rule.OwnEvents = x.set && x.erase
is_recorded x Rule.OwnSequence = x.set && x.erase
is_recorded x Rule.OwnEntries = x.set && x.erase
is_recorded x Rule.StopAtDetach = x.set || x.uses
is_recorded x Rule.SetMoved = x.set
is_recorded x Rule.SetUnlessInvalidated = x.set && x.model
is_recorded x Rule.DropLost = x.free
is_recorded x Rule.TakeFromThere = x.take
is_recorded x Rule.EvictFirst = x.take && x.free
is_recorded x Rule.WaitForLocked = x.take && x.free
is_recorded x Rule.ExclusiveWaits = x.set && x.model
is_recorded x r = true

-- ---- how often a rule was kept

-- 1 if it is so
abbrev pub one_if : Bool → ℕ
one_if b = if b then 1 else 0

-- the inner migration, if it is one to a device, counted by this
abbrev pub of_inner : (Move → ℕ) → List Move → ℕ
of_inner count [] = 0
of_inner count (y ∷ ys) = if y.to_device then count y else 0

-- a page that its migration has not set
abbrev pub is_unset : Move → ℕ → Bool
is_unset y v = not (list_any (λ u. u == v) y.set)

-- some look-up has begun
abbrev pub has_begun : Stage → Bool
has_begun Stage.Unbegun = false
has_begun g = true

-- how often an event puts a rule of events to the test; if no event breaks it, so often it was kept
abbrev pub asks : Rule → Known → ℕ → Event → ℕ
asks Rule.EntryRight k t (Event.Set m v f w) =
    one_if (is_read w && (is_look_up k t v w && is_noted v false (k.looks t m).found))
asks Rule.MmapLock k t (Event.Walk m r q locked d) = 1
asks Rule.OwnDevice k t (Event.Set m v f w) = one_if (is_some (private_to f) && is_some (k.device m))
asks Rule.BeginWaits k t (Event.Begin m q) =
    one_if (list_any (λ x. (x.mirror == m) && (is_some x.after && is_after x.ended (k.last t))) k.calls)
asks Rule.BeginFirst k t (Event.Set m v f w) = one_if (is_look_up k t v w && has_begun (k.looks t m).stage)
asks Rule.StopAtDetach k t (Event.Removed m) = 1
asks Rule.WriteEntry k t (Event.Use m r writes) =
    if writes then count_by (λ x. in_span m r x && not (is_read x.right)) k.slots else 0
asks Rule.DetachWaits k t (Event.Removed m) = one_if (k.leaving m)
asks Rule.SetMoved k t (Event.Finalize p) = of_inner (λ y. count_by (λ x. is_unset y x.0) y.stayed) (k.moves t)
asks Rule.SetRight k t (Event.Set m v f w) =
    one_if (is_read w && is_migrated_set (k.moves t) (λ y. is_noted v false y.source) v w)
asks Rule.SetUnlessInvalidated k t (Event.Finalize p) =
    of_inner (λ y. one_if (list_any (is_unset y) y.moved)) (k.moves t)
asks Rule.DropLost k t (Event.Finalize p) =
    of_inner (λ y. count_by (λ x. not (is_kept_back y.freed x.1)) y.stayed) (k.moves t)
asks Rule.TakeFromThere k t (Event.Withdraw d) = one_if (not (k.withdrawn d))
asks Rule.EvictFirst k t (Event.Gone d) = one_if (k.withdrawn d && (not (k.passed d) && k.held_then d))
asks Rule.WithdrawFirst k t (Event.Gone d) = 1
asks Rule.WaitForLocked k t (Event.Gone d) = one_if (k.withdrawn d && k.held_then d)
asks Rule.ExclusiveWaits k t (Event.Set m v f w) = one_if (is_sole w)
asks Rule.LookAgain k t (Event.Add m v) = 1
asks r k t x = 0

-- how often these events do
abbrev pub asked : Rule → Known → List Traced → ℕ
asked r k [] = 0
asked r k (s ∷ ss) = asks r k s.thread s.event + asked r (known_next k s) ss

-- a callback of no own migration has erased all entries, of which there were more than n
abbrev pub is_erased : ℕ → Known → Call → Bool
is_erased n k x = is_some x.after && (nat_lt n (length x.had) && (is_empty x.left && not (is_own k x)))

-- an own migration's callback has set the sequence, and erased all
abbrev pub is_own_kept : Known → Call → Bool
is_own_kept k x = is_some x.after && (is_own k x && (not (leaves_seq x) && (is_empty x.left && x.alone)))

-- a callback has set the sequence, which no other was given
abbrev pub sets_sequence : Known → Call → Bool
sets_sequence k x =
    is_some x.after
    && (x.alone && (not (leaves_seq x) && not (is_own k x && (is_empty x.had || not (is_empty x.left)))))

-- how often a rule was kept that is not broken
abbrev pub kept : Rule → List Traced → ℕ
kept Rule.Compare es = length (known es).given_up
kept Rule.CompareSequence es =
    let k = known es in if is_some (compare k) then 0 else count_by (λ past. past) k.given_up
kept Rule.SetSequence es = let k = known es in count_by (sets_sequence k) k.calls
kept Rule.Erase es = let k = known es in count_by (is_erased 0 k) k.calls
kept Rule.EraseAll es = let k = known es in count_by (is_erased 1 k) k.calls
kept Rule.EraseInTime es = let k = known es in count_by (is_erased 0 k) k.calls
kept Rule.OwnEvents es = let k = known es in count_by (is_own_kept k) k.calls
kept Rule.OwnSequence es = let k = known es in count_by (is_own_kept k) k.calls
kept Rule.OwnEntries es = let k = known es in count_by (is_own_kept k) k.calls
kept r es = asked r known_start es

-- ---- one of several rules

-- none of these rules is broken
abbrev pub none_broken : List Rule → List Traced → Bool
none_broken rs es = list_all (λ r. is_none (broken r es)) rs

-- a callback that leaves entries, and it is not known yet what becomes of them
abbrev pub may_leave : Known → Call → Bool
may_leave k x = entries_left k x && (not (is_own k x) || (x.alone && is_none x.stale))

-- the event that may break the rule
abbrev pub suspect : Rule → List Traced → Option ℕ
suspect Rule.Compare es = stale_commit (known es)
suspect Rule.CompareSequence es = stale_commit (known es)
suspect Rule.Erase es = first_call may_leave (known es)
suspect Rule.EraseAll es = first_call (λ k x. may_leave k x && (not (is_own k x) && not (left_first k x))) (known es)
suspect Rule.EraseInTime es = first_call (λ k x. may_leave k x && (is_own k x || is_none x.ended)) (known es)
suspect Rule.OwnEntries es = first_call (λ k x. may_leave k x && is_own k x) (known es)
suspect Rule.SetSequence es = first_call (λ k x. own_sequence_left k x && is_empty x.had) (known es)
suspect Rule.OwnEvents es = first_call own_sequence_left (known es)
suspect Rule.OwnSequence es = first_call own_sequence_left (known es)
suspect r es = None

-- the rules of which one is broken then
abbrev pub joined : Rule → List Rule
joined Rule.Compare = Rule.Compare ∷ Rule.CompareSequence ∷ []
joined Rule.CompareSequence = Rule.Compare ∷ Rule.CompareSequence ∷ []
joined Rule.Erase = Rule.Erase ∷ Rule.EraseAll ∷ Rule.EraseInTime ∷ []
joined Rule.EraseAll = Rule.Erase ∷ Rule.EraseAll ∷ Rule.EraseInTime ∷ []
joined Rule.EraseInTime = Rule.Erase ∷ Rule.EraseAll ∷ Rule.EraseInTime ∷ []
joined Rule.OwnEntries = Rule.Erase ∷ Rule.EraseAll ∷ Rule.EraseInTime ∷ Rule.OwnEntries ∷ []
joined Rule.SetSequence = Rule.SetSequence ∷ Rule.OwnEvents ∷ Rule.OwnSequence ∷ []
joined Rule.OwnEvents = Rule.SetSequence ∷ Rule.OwnEvents ∷ Rule.OwnSequence ∷ []
joined Rule.OwnSequence = Rule.SetSequence ∷ Rule.OwnEvents ∷ Rule.OwnSequence ∷ []
joined r = []

-- where the rule may be broken: none of those is known to be
abbrev pub may_break : Rule → List Traced → Option ℕ
may_break r es = if none_broken (joined r) es then suspect r es else None

-- ---- the verdict

-- kept n times, if it was put to the test
abbrev pub if_asked : ℕ → Verdict
if_asked n = if nat_lt 0 n then Verdict.Kept n else Verdict.Unseen

-- of a rule that is not broken
abbrev pub unbroken : Rule → List Traced → Verdict
unbroken r es = elim (may_break r es) [ None ↦ if_asked (kept r es) | Some i ↦ Verdict.Maybe i ]

-- of any rule
abbrev pub verdict : Recorded → Rule → List Traced → Verdict
verdict x r es = if is_recorded x r then elim (broken r es) [ None ↦ unbroken r es | Some i ↦ Verdict.Broken i ]
    else Verdict.Unseen
