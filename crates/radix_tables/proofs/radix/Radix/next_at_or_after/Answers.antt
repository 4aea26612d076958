use Rattle.std.proofs.Common.{sym, ap, ◌∙◌, None, Some}
use Rattle.radix_tables.specs.Levels.{room_of, word_of}
use Rattle.radix_tables.specs.Maps.{map_of, next_word}
use Rattle.radix_tables.proofs.Made.{word_below}
use Rattle.radix_tables.proofs.Pairs.{least_word}
use Rattle.radix_tables.proofs.radix.Radix.next_at_or_after.Goals as goal

pub returns-in_err-number : goal.returns-in_err-number
returns-in_err-number c =
    let l = c.self.inside.levels in
    c.from_residual.ensures ∙ (least_word (word_of l) (room_of l) c.number-from.result c.args.end None c.in_err-number.ensures (word_below l c.self.invariant.levels)
    ∙ (ap (λ v. next_word (map_of (word_of l) (room_of l)) v c.args.end) c.number-from.ensures.same ∙ ap (λ m. next_word m c.args.page c.args.end) c.self.view_is))

pub returns : goal.returns
returns c =
    let l = c.self.inside.levels in
    ap (λ k. Some (k, c.in_ok-number.word)) c.new.ensures
    ∙ (least_word (word_of l) (room_of l) c.number-from.result c.args.end (Some (c.in_ok-number.number, c.in_ok-number.word)) c.in_ok-number.ensures (word_below l c.self.invariant.levels)
    ∙ (ap (λ v. next_word (map_of (word_of l) (room_of l)) v c.args.end) c.number-from.ensures.same ∙ ap (λ m. next_word m c.args.page c.args.end) c.self.view_is))

pub new-requires : goal.new-requires
new-requires c =
    let l = c.self.inside.levels in
    let e = c.in_ok-number.ensures in
    word_below l c.self.invariant.levels c.in_ok-number.number (λ z. e.3 (sym e.2 ∙ z))
