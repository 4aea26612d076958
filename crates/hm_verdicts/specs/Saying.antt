-- The verdict on a rule, by what was counted.
use Rattle.std.specs.Prelude.{ℕ, Bool, if◌then◌else◌, Option, Some, None}
use Rattle.hm_protocol.specs.declared.events.Recorded.{Recorded}
use Rattle.hm_protocol.specs.declared.rules.Rule.{Rule}
use Rattle.hm_protocol.specs.declared.rules.Verdict.{Verdict}
use Rattle.hm_protocol.specs.Known.{Known}
use Rattle.hm_protocol.specs.Verdicts.{is_recorded, if_asked}
use Rattle.hm_verdicts.specs.Ending.{kept_at_end, suspect_at_end}

-- how often a rule was kept that is not broken, which events put so often to the test
abbrev pub kept_by : Rule → Known → ℕ → ℕ
kept_by Rule.Compare k n = kept_at_end Rule.Compare k
kept_by Rule.CompareSequence k n = kept_at_end Rule.CompareSequence k
kept_by Rule.SetSequence k n = kept_at_end Rule.SetSequence k
kept_by Rule.Erase k n = kept_at_end Rule.Erase k
kept_by Rule.EraseAll k n = kept_at_end Rule.EraseAll k
kept_by Rule.EraseInTime k n = kept_at_end Rule.EraseInTime k
kept_by Rule.OwnEvents k n = kept_at_end Rule.OwnEvents k
kept_by Rule.OwnSequence k n = kept_at_end Rule.OwnSequence k
kept_by Rule.OwnEntries k n = kept_at_end Rule.OwnEntries k
kept_by r k n = n

-- the event that may break it; whether none of the rules that are joined with it is broken
abbrev pub may_break_by : Rule → Known → Bool → Option ℕ
may_break_by r k none_broken = if none_broken then suspect_at_end r k else None

-- the verdict on it
abbrev pub unbroken_by : Rule → Known → Bool → ℕ → Verdict
unbroken_by r k none_broken n = elim (may_break_by r k none_broken) [
  | None ↦ if_asked (kept_by r k n)
  | Some i ↦ Verdict.Maybe i
]

-- the verdict on any rule, and where it is broken
abbrev pub verdict_by : Recorded → Rule → Known → Option ℕ → Bool → ℕ → Verdict
verdict_by x r k at none_broken n =
    if is_recorded x r then elim at [ None ↦ unbroken_by r k none_broken n | Some i ↦ Verdict.Broken i ]
    else Verdict.Unseen
