use Rattle.std.proofs.Common.{◌≡◌, drop}
use Rattle.std.specs.List.{list_any}
use Rattle.hm_race_keys.specs.Questions.{named_beside}
use Rattle.hm_race_keys.proofs.questions.is_named_beside.Given as goal

abbrev pub invariant-loop-item : goal.invariant-loop-item
invariant-loop-item l = list_any (named_beside l.proc l.page l.frame) l.items ≡ list_any (named_beside l.proc l.page l.frame) (drop l.item-index l.items)
