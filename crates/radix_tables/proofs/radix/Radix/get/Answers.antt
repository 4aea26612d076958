use Rattle.std.proofs.Common.{ap, ◌∙◌}
use Rattle.radix_tables.specs.Levels.{room_of, word_of}
use Rattle.radix_tables.specs.Maps.{map_of, word_at}
use Rattle.radix_tables.proofs.Pairs.{word_is}
use Rattle.radix_tables.proofs.radix.Radix.get.Goals as goal

pub returns : goal.returns
returns c =
    let l = c.self.inside.levels in
    c.word.ensures ∙ (word_is (word_of l) (room_of l) c.number-number.result c.number-number.ensures.below ∙ (ap (λ v. word_at (map_of (word_of l) (room_of l)) v) c.number-number.ensures.same ∙ ap (λ m. word_at m c.args.page) c.self.view_is))
