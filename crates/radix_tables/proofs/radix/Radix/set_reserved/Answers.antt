use Rattle.std.proofs.Common.{ap, ◌∙◌}
use Rattle.radix_tables.specs.Levels.{room_of, word_of}
use Rattle.radix_tables.specs.Maps.{map_of, is_reserved, with_word}
use Rattle.radix_tables.proofs.Pairs.{map_set, reserved_is}
use Rattle.radix_tables.proofs.radix.Radix.set_reserved.Goals as goal

pub set-requires-clause-room : goal.set-requires-clause-room
set-requires-clause-room c =
    let l = c.self.inside.levels in
    reserved_is (word_of l) (room_of l) c.number-number.result (ap (λ v. is_reserved (map_of (word_of l) (room_of l)) v) c.number-number.ensures.same ∙ (ap (λ m. is_reserved m c.args.page) c.self.view_is ∙ c.requires.reserved))

pub returns : goal.returns
returns c =
    let l = c.self.inside.levels in
    let n = c.set.new.self in
    map_set (word_of l) (word_of n) (room_of l) (room_of n) c.number-number.result c.args.word c.number-number.ensures.below c.requires.some c.set.ensures.words c.set.ensures.room
    ∙ (ap (λ v. with_word (map_of (word_of l) (room_of l)) v c.args.word) c.number-number.ensures.same ∙ ap (λ m. with_word m c.args.page c.args.word) c.self.view_is)
