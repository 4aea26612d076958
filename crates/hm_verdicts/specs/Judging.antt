-- What a judge keeps of each rule after some events.
use Rattle.std.specs.Prelude.{◌≡◌, ℕ, ◌+◌, ◌-◌, ◌^◌, min, Bool, if◌then◌else◌, Option, Some, None, is_none, List, map}
use Rattle.std.specs.List.{list_all}
use Rattle.std.specs.Option.{option_or}
use Rattle.hm_protocol.specs.declared.events.Recorded.{Recorded}
use Rattle.hm_protocol.specs.declared.events.Traced.{Traced}
use Rattle.hm_protocol.specs.declared.rules.Rule.{Rule}
use Rattle.hm_protocol.specs.declared.rules.Verdict.{Verdict}
use Rattle.hm_protocol.specs.Known.{Known, known_start}
use Rattle.hm_protocol.specs.Noted.{known}
use Rattle.hm_protocol.specs.Rules.{first_wrong, all_rules}
use Rattle.hm_protocol.specs.Verdicts.{asks, asked, joined}
use Rattle.hm_verdicts.specs.Asking.{breaks_at}
use Rattle.hm_verdicts.specs.Ending.{fails_at_end}
use Rattle.hm_verdicts.specs.Saying.{verdict_by}
use Rattle.hm_verdicts.specs.Knowledge.{known_of}
use Rattle.hm_verdicts.specs.declared.judge.Count.{Count}
use Rattle.hm_verdicts.specs.declared.judge.Judge.{Judge}

-- before the first event
abbrev pub count_start : Rule → Count
count_start r = record { rule = r; broken = None; asked = 0 }

-- after these events: where the first of them is that breaks it, and how often they put it to the test
abbrev pub count_of : List Traced → Rule → Count
count_of es r = record { rule = r; broken = first_wrong (breaks_at r) known_start es; asked = asked r known_start es }

-- it is broken where it was before, or by this event
abbrev pub broken_by : Known → Traced → Count → Option ℕ
broken_by k s c = elim c.broken [
  | Some i ↦ Some i
  | None ↦ (if breaks_at c.rule k s then Some k.at else None)
]

-- one event more, after what is known; how often events put a rule to the test is counted as far as a number goes
abbrev pub count_next : Known → Traced → Count → Count
count_next k s c = record c {
  broken = broken_by k s c;
  asked = min (c.asked + asks c.rule k s.thread s.event) (2 ^ 64 - 1);
}

-- the judge has gone on by these events
pub record Follows (j : Judge) (es : List Traced) : Type 0 where
  pub knowledge : known_of j.knowledge ≡ known es
  pub counts : j.counts.items ≡ map (count_of es) all_rules

-- none of these rules is broken in the end
abbrev pub unbroken_at_end : List Rule → Known → Bool
unbroken_at_end rs k = list_all (λ r. is_none (fails_at_end r k)) rs

-- the verdict on a rule, of which this is kept
abbrev pub said_of : Recorded → Known → Count → Verdict
said_of x k c =
    verdict_by x c.rule k (option_or c.broken (fails_at_end c.rule k)) (unbroken_at_end (joined c.rule) k) c.asked
