use Rattle.std.proofs.Common.{sym, ap, ◌∙◌, None, Some}
use Rattle.radix_tables.specs.Levels.{room_of, word_of}
use Rattle.radix_tables.specs.Maps.{map_of, next_marked}
use Rattle.radix_tables.proofs.Made.{word_below}
use Rattle.radix_tables.proofs.TableBits.{marked_some}
use Rattle.radix_tables.proofs.Pairs.{least_marked}
use Rattle.radix_tables.proofs.radix.Radix.next_marked.Goals as goal

pub returns-in_err-found : goal.returns-in_err-found
returns-in_err-found c =
    let l = c.self.inside.levels in
    c.from_residual.ensures ∙ (least_marked (word_of l) (room_of l) c.number-from.result c.args.end None c.in_err-found.ensures (λ v d. word_below l c.self.invariant.levels v (marked_some (word_of l v) d))
    ∙ (ap (λ v. next_marked (map_of (word_of l) (room_of l)) v c.args.end) c.number-from.ensures.same ∙ ap (λ m. next_marked m c.args.page c.args.end) c.self.view_is))

pub returns : goal.returns
returns c =
    let l = c.self.inside.levels in
    ap (λ k. Some (k, c.in_ok-found.word)) c.new.ensures
    ∙ (least_marked (word_of l) (room_of l) c.number-from.result c.args.end (Some (c.in_ok-found.found, c.in_ok-found.word)) c.in_ok-found.ensures (λ v d. word_below l c.self.invariant.levels v (marked_some (word_of l v) d))
    ∙ (ap (λ v. next_marked (map_of (word_of l) (room_of l)) v c.args.end) c.number-from.ensures.same ∙ ap (λ m. next_marked m c.args.page c.args.end) c.self.view_is))

pub new-requires : goal.new-requires
new-requires c =
    let l = c.self.inside.levels in
    let e = c.in_ok-found.ensures in
    word_below l c.self.invariant.levels c.in_ok-found.found (marked_some (word_of l c.in_ok-found.found) (λ z. e.3 (sym e.2 ∙ z)))
