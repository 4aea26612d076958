use Rattle.std.proofs.Common.{◌≡◌, drop}
use Rattle.hm_race_keys.specs.PagePlaces.{first_item}
use Rattle.hm_race_keys.specs.Questions.{names_so}
use Rattle.hm_race_keys.proofs.questions.first_naming.Given as goal

abbrev pub invariant-loop-item : goal.invariant-loop-item
invariant-loop-item l =
    first_item (λ x. names_so l.naming x.value l.frame) l.items
    ≡ first_item (λ x. names_so l.naming x.value l.frame) (drop l.item-index l.items)
