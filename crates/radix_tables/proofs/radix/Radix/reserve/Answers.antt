use Rattle.std.proofs.Common.{◌≡◌, ℕ, true, OnOk, subst, sym, ◌∙◌}
use Rattle.radix_tables.specs.Levels.{room_of, word_of}
use Rattle.radix_tables.specs.Maps.{map_of, is_reserved}
use Rattle.radix_tables.proofs.Pairs.{reserved_made, some_test}
use Rattle.radix_tables.proofs.Reserved.{made_words, made_ok, made_kept, made_err}
use Rattle.radix_tables.proofs.radix.Radix.reserve.Goals as goal

pub returns-clause-words : goal.returns-clause-words
returns-clause-words c = made_words c.self.inside.levels c.make_room.new.self _ _ _ c.self.view_is c.make_room.ensures

pub returns-clause-ok : goal.returns-clause-ok
returns-clause-ok c =
    let n = c.make_room.new.self in
    let P : ℕ → Type 0 = λ v. OnOk c.make_room.result (is_reserved (map_of (word_of n) (room_of n)) v ≡ true) in
    subst P c.number-number.ensures.same (made_ok c.self.inside.levels n c.number-number.result c.make_room.result c.number-number.ensures.below c.make_room.ensures)

pub returns-clause-kept : goal.returns-clause-kept
returns-clause-kept c = made_kept c.self.inside.levels c.make_room.new.self _ _ _ c.self.view_is c.make_room.ensures

pub returns-clause-err : goal.returns-clause-err
returns-clause-err c = made_err c.self.inside.levels c.make_room.new.self _ _ _ c.self.view_is c.make_room.ensures

pub returns-then-has_room-clause-ok : goal.returns-then-has_room-clause-ok
returns-then-has_room-clause-ok c =
    let l = c.self.inside.levels in
    let P : ℕ → Type 0 = λ v. is_reserved (map_of (word_of l) (room_of l)) v ≡ true in
    subst P c.number-number.ensures.same
    (reserved_made (word_of l) (room_of l) c.number-number.result c.number-number.ensures.below (some_test (room_of l c.number-number.result) (sym c.has_room.ensures ∙ c.if-has_room.true)))
