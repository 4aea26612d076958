use Rattle.std.proofs.Common.{◌≡◌, ◌≤◌, take, count_by}
use Rattle.hm_base.specs.PlaceWords.{is_frame, names}
use Rattle.hm_race_keys.specs.declared.sparse.Item.{Item}
use Rattle.hm_base.specs.declared.Place.{Place}
use Rattle.hm_race_keys.proofs.questions.count_named.Given as goal

abbrev pub invariant-loop-item : goal.invariant-loop-item
invariant-loop-item l = record {
  counted : l.count ≡ count_by (λ (x : Item Place). is_frame (names x.value) l.frame) (take l.item-index l.items);
  few : l.count ≤ l.item-index;
}
