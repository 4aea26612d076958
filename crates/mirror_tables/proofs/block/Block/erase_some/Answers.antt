use Rattle.std.proofs.Common.{◌≡◌, ◌+◌, take, drop, ◌++◌, ap, sym, ◌∙◌, arith}
use Rattle.std.proofs.lemmas.List.{take-append-drop}
use Rattle.mirror_tables.specs.Blocks.{without_span}
use Rattle.mirror_tables.proofs.Places.{place_as, without_cut, same_places, changed_as, unchanged}
use Rattle.mirror_tables.proofs.Kept.{cut_kept}
use Rattle.mirror_tables.proofs.block.Block.erase_some.Goals as goal

pub invariant_of-self : goal.invariant_of-self
invariant_of-self c =
    let es = c.self.inside.entries.items in
    let first : c.number-first.result ≡ c.args.span.first = c.number-first.ensures.same ∙ c.first.ensures.same in
    let last : c.number-first.result + c.count.result ≡ c.args.span.first + c.args.span.count = omega (arith, first, c.count.ensures.same) in
    let p = place_as _ es _ c.args.span.first _ c.deref.ensures.value first c.place-from.ensures in
    let q = place_as _ es _ (c.args.span.first + c.args.span.count) _ c.deref-2.ensures.value last c.place_from-upto.ensures in
    rw c.cut.ensures.items (cut_kept es c.place-from.result c.place_from-upto.result c.self.invariant (omega arith) q.within)

pub returns-then-from-upto-clause-block : goal.returns-then-from-upto-clause-block
returns-then-from-upto-clause-block c =
    let es = c.self.inside.entries.items in
    let first : c.number-first.result ≡ c.args.span.first = c.number-first.ensures.same ∙ c.first.ensures.same in
    let last : c.number-first.result + c.count.result ≡ c.args.span.first + c.args.span.count = omega (arith, first, c.count.ensures.same) in
    let p = place_as _ es _ c.args.span.first _ c.deref.ensures.value first c.place-from.ensures in
    let q = place_as _ es _ (c.args.span.first + c.args.span.count) _ c.deref-2.ensures.value last c.place_from-upto.ensures in
    changed_as _ _ _ _ (λ t. without_span t c.args.span) c.self.view_is (c.cut.ensures.items ∙ without_cut es c.args.span c.place-from.result c.place_from-upto.result p q)

pub returns-else-from-upto-clause-block : goal.returns-else-from-upto-clause-block
returns-else-from-upto-clause-block c =
    let es = c.self.inside.entries.items in
    let first : c.number-first.result ≡ c.args.span.first = c.number-first.ensures.same ∙ c.first.ensures.same in
    let last : c.number-first.result + c.count.result ≡ c.args.span.first + c.args.span.count = omega (arith, first, c.count.ensures.same) in
    let p = place_as _ es _ c.args.span.first _ c.deref.ensures.value first c.place-from.ensures in
    let q = place_as _ es _ (c.args.span.first + c.args.span.count) _ c.deref-2.ensures.value last c.place_from-upto.ensures in
    let same = same_places es c.args.span c.place-from.result c.place_from-upto.result p q c.if-from-upto.false in
    unchanged _ _ (λ t. without_span t c.args.span) c.self.view_is
    (sym (take-append-drop c.place-from.result es) ∙ (ap (λ k. take c.place-from.result es ++ drop k es) same ∙ without_cut es c.args.span c.place-from.result c.place_from-upto.result p q))
