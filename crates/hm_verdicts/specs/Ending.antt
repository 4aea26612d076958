-- What is asked of what is known in the end.
use Rattle.std.specs.Prelude.{ℕ, Bool, true, not, ◌&&◌, ◌||◌, ◌==◌, nat_lt, if◌then◌else◌, Option, None}
use Rattle.std.specs.Prelude.{is_some, is_none, List, length, count_by}
use Rattle.std.specs.List.{list_any}
use Rattle.hm_protocol.specs.declared.rules.Rule.{Rule}
use Rattle.hm_protocol.specs.Words.{is_empty}
use Rattle.hm_protocol.specs.Known.{Slot, Call, Known, is_own}
use Rattle.hm_protocol.specs.Callbacks.{leaves, erase_all, own_sequence_left, left_first, is_stale, is_copied}
use Rattle.hm_protocol.specs.Rules.{Test, test_of, first_call, compare, stale_commit}
use Rattle.hm_protocol.specs.Verdicts.{is_erased, is_own_kept, may_leave, sets_sequence}

-- where a rule is broken that no event breaks
abbrev pub fails_at_end : Rule → Known → Option ℕ
fails_at_end r k = elim (test_of r) [ Test.At test ↦ None | Test.Of test ↦ first_call test k | Test.End test ↦ test k ]

-- ---- rules; proofs look only where they must into three of these words, which are long

-- `erase`, if this is so of all callbacks
unfoldable pub erase_if : Bool → Known → Call → Bool
erase_if b k x = leaves k x && (not x.erased && ((is_own k x || (is_some x.ended && left_first k x)) && b))

-- `erase-all`
unfoldable pub erase_some : Known → Call → Bool
erase_some k x = erase_all k x

-- `own-events`, if this is so
abbrev pub own_events_if : Bool → Known → Call → Bool
own_events_if b k x = (own_sequence_left k x && b) && is_stale x

-- `own-sequence`, if both are so
abbrev pub own_sequence_if : Bool → Bool → Known → Call → Bool
own_sequence_if b d k x = (own_sequence_left k x && b) && (is_copied true x && d)

-- how often such a rule was kept
abbrev pub kept_at_end : Rule → Known → ℕ
kept_at_end Rule.Compare k = length k.given_up
kept_at_end Rule.CompareSequence k = if is_some (compare k) then 0 else count_by (λ past. past) k.given_up
kept_at_end Rule.SetSequence k = count_by (sets_sequence k) k.calls
kept_at_end Rule.Erase k = count_by (is_erased 0 k) k.calls
kept_at_end Rule.EraseAll k = count_by (is_erased 1 k) k.calls
kept_at_end Rule.EraseInTime k = count_by (is_erased 0 k) k.calls
kept_at_end Rule.OwnEvents k = count_by (is_own_kept k) k.calls
kept_at_end Rule.OwnSequence k = count_by (is_own_kept k) k.calls
kept_at_end Rule.OwnEntries k = count_by (is_own_kept k) k.calls
kept_at_end r k = 0

-- the callback may leave entries of a migration of another device, and not the first one
unfoldable pub may_leave_some : Known → Call → Bool
may_leave_some k x = may_leave k x && (not (is_own k x) && not (left_first k x))

-- it may leave entries of its own migration, or while its invalidation is under way
abbrev pub may_leave_late : Known → Call → Bool
may_leave_late k x = may_leave k x && (is_own k x || is_none x.ended)

-- it may leave entries of its own migration
abbrev pub may_leave_own : Known → Call → Bool
may_leave_own k x = may_leave k x && is_own k x

-- its own migration leaves the sequence, and it had no entries
abbrev pub leaves_without : Known → Call → Bool
leaves_without k x = own_sequence_left k x && is_empty x.had

-- the event that may break the rule
abbrev pub suspect_at_end : Rule → Known → Option ℕ
suspect_at_end Rule.Compare k = stale_commit k
suspect_at_end Rule.CompareSequence k = stale_commit k
suspect_at_end Rule.Erase k = first_call may_leave k
suspect_at_end Rule.EraseAll k = first_call may_leave_some k
suspect_at_end Rule.EraseInTime k = first_call may_leave_late k
suspect_at_end Rule.OwnEntries k = first_call may_leave_own k
suspect_at_end Rule.SetSequence k = first_call leaves_without k
suspect_at_end Rule.OwnEvents k = first_call own_sequence_left k
suspect_at_end Rule.OwnSequence k = first_call own_sequence_left k
suspect_at_end r k = None

-- one of these entries is of that page
abbrev pub has_page : List Slot → ℕ → Bool
has_page xs v = list_any (λ s. s.page == v) xs

-- the callback has left the first page of its span from that page on
abbrev pub left_from : Call → ℕ → Bool
left_from x v = has_page x.left (if nat_lt x.span.first v then v else x.span.first)
