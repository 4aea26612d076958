-- Rules as tests of a callback, after all that is known: whether it breaks the rule.
use Rattle.std.specs.Prelude.{ℕ, Bool, true, false, not, ◌&&◌, ◌||◌, nat_lt, ◌==◌, if◌then◌else◌, Some, None}
use Rattle.std.specs.Prelude.{is_some, length}
use Rattle.std.specs.List.{list_any}
use Rattle.hm_protocol.specs.Words.{is_empty}
use Rattle.hm_protocol.specs.Known.{Call, Known, leaves_seq, is_own}

-- ---- joint rules

-- entries of its span were there when it returned; of its own migration, though it set the sequence
abbrev pub entries_left : Known → Call → Bool
entries_left k x = is_some x.after && (not (is_empty x.left) && (not (is_own k x) || not (leaves_seq x)))

-- its own migration leaves the sequence, and it does not erase all
abbrev pub own_sequence_left : Known → Call → Bool
own_sequence_left k x = is_own k x && (leaves_seq x && (is_empty x.had || not (is_empty x.left)))

-- ---- the sequence

-- `set-sequence`: the interval has another sequence than the callback was given. After a migration by its own device
-- this rule is meant only if it has erased all that it had
abbrev pub set_sequence : Known → Call → Bool
set_sequence k x = leaves_seq x && not (own_sequence_left k x)

-- ---- entries

-- all that it left was erased later
abbrev pub is_late : Call → Bool
is_late x = not (is_empty x.left) && (x.late == length x.left)

-- entries of moved pages outlived the copy
abbrev pub is_stale : Call → Bool
is_stale x = elim x.stale [ None ↦ false | Some y ↦ not (is_empty y.0) ]

-- they were erased when they were copied, to a device if this is asked
abbrev pub is_copied : Bool → Call → Bool
is_copied to_device x = elim x.stale [
  | None ↦ false
  | Some y ↦ nat_lt 0 x.copied && (is_empty y.0 && (not to_device || y.1))
]

-- it left entries for good
abbrev pub leaves : Known → Call → Bool
leaves k x = entries_left k x && (not (is_late x) && (not (is_own k x) || (x.alone && is_stale x)))

-- the first page of its span that lies in the window was left
abbrev pub left_first : Known → Call → Bool
left_first k x = let v = k.first x.mirror in
    list_any (λ s. s.page == (if nat_lt x.span.first v then v else x.span.first)) x.left

-- another callback of the mirror has erased
abbrev pub erases : Known → ℕ → Bool
erases k m = list_any (λ y. (y.mirror == m) && y.erased) k.calls

-- `erase`: it leaves all entries
abbrev pub erase : Known → Call → Bool
erase k x = leaves k x && (not x.erased && ((is_own k x || (is_some x.ended && left_first k x))
    && not (list_any is_late k.calls)))

-- `erase-all`: it leaves some
abbrev pub erase_all : Known → Call → Bool
erase_all k x = leaves k x && (x.erased
    || (not (is_own k x) && (is_some x.ended && (not (left_first k x) && erases k x.mirror))))

-- `erase-in-time`: they go after it has returned
abbrev pub erase_in_time : Known → Call → Bool
erase_in_time k x = is_late x

-- ---- its own migrations

-- a callback of them leaves the sequence, in a trace in which no other does
abbrev pub leaves_own_alone : Known → Call → Bool
leaves_own_alone k x = own_sequence_left k x && not (list_any (set_sequence k) k.calls)

-- `own-events`: and the entries of moved pages
abbrev pub own_events : Known → Call → Bool
own_events k x = leaves_own_alone k x && is_stale x

-- `own-sequence`: the entries go when they are copied
abbrev pub own_sequence : Known → Call → Bool
own_sequence k x = leaves_own_alone k x && (is_copied true x && not (list_any (own_events k) k.calls))

-- `own-entries`: the sequence is set, and the entries go when they are copied
abbrev pub own_entries : Known → Call → Bool
own_entries k x = is_own k x && (not (leaves_seq x) && (x.alone && is_copied false x))
