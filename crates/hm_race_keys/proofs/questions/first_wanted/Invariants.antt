use Rattle.std.proofs.Common.{◌≡◌, drop}
use Rattle.std.specs.Prelude.{◌==◌, ◌&&◌, nat_le}
use Rattle.hm_race_keys.specs.PagePlaces.{first_item}
use Rattle.hm_race_keys.specs.Questions.{is_wanted}
use Rattle.hm_race_keys.proofs.questions.first_wanted.Given as goal

abbrev pub invariant-loop-item : goal.invariant-loop-item
invariant-loop-item l =
    first_item (λ x. (x.row == l.proc) && (nat_le l.from x.number && is_wanted l.writes x.value)) l.items
    ≡ first_item (λ x. (x.row == l.proc) && (nat_le l.from x.number && is_wanted l.writes x.value)) (drop l.item-index l.items)
