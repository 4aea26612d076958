use Rattle.std.proofs.Common.{ap, sym, ◌∙◌}
use Rattle.radix_tables.specs.Levels.{room_of, word_of}
use Rattle.radix_tables.specs.Maps.{map_of, without_word}
use Rattle.radix_tables.proofs.Pairs.{map_cleared, map_clear}
use Rattle.radix_tables.proofs.radix.Radix.clear.Goals as goal

pub returns-then-word-ne0 : goal.returns-then-word-ne0
returns-then-word-ne0 c =
    let l = c.self.inside.levels in
    let n = c.set.new.self in
    map_cleared (word_of l) (word_of n) (room_of l) (room_of n) c.number-number.result c.set.ensures.words c.set.ensures.room
    ∙ (ap (λ v. without_word (map_of (word_of l) (room_of l)) v) c.number-number.ensures.same ∙ ap (λ m. without_word m c.args.page) c.self.view_is)

pub returns-else-word-ne0 : goal.returns-else-word-ne0
returns-else-word-ne0 c =
    let l = c.self.inside.levels in
    sym c.self.view_is ∙ (map_clear (word_of l) (room_of l) c.number-number.result (sym c.word.ensures ∙ c.if-word-ne0.false)
    ∙ (ap (λ v. without_word (map_of (word_of l) (room_of l)) v) c.number-number.ensures.same ∙ ap (λ m. without_word m c.args.page) c.self.view_is))

pub set-requires-clause-room : goal.set-requires-clause-room
set-requires-clause-room c = c.facts.ensures c.number-number.result (λ z. c.if-word-ne0.true (c.word.ensures ∙ z))
