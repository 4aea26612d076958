use Rattle.std.proofs.Common.{sym, ap, ◌∙◌}
use Rattle.hm_tables.specs.Reads.{page_test}
use Rattle.hm_tables.proofs.NextFound.{found_here, none_here, none_after, steps_on, falls, ends_last}
use Rattle.hm_tables.proofs.tables.next_in.Goals as goal

pub returns-then-passes : goal.returns-then-passes
returns-then-passes c =
    found_here c.args.table.now c.args.test c.loop-page.at c.args.from c.args.end _ c.loop-page.invariant c.in-Some.ensures
    (sym (c.passes.ensures ∙ ap (page_test c.args.test) c.place_of_word.ensures) ∙ c.if-passes.true)

pub returns-then-number-eq-LAST_PAGE : goal.returns-then-number-eq-LAST_PAGE
returns-then-number-eq-LAST_PAGE c =
    none_after c.args.table.now c.args.test c.loop-page.at c.args.from c.args.end _ c.requires c.loop-page.invariant c.in-Some.ensures
    (sym (c.passes.ensures ∙ ap (page_test c.args.test) c.place_of_word.ensures) ∙ c.if-passes.false)
    (ends_last _ _ c.number.ensures.same c.if-number-eq-LAST_PAGE.true)

pub loop-page-smaller : goal.loop-page-smaller
loop-page-smaller c = falls c.args.table.now c.args.test c.loop-page.at c.args.end _ _ _ c.in-Some.ensures c.number-in-Some.ensures.same c.number-in-Some.ensures.below c.new-at.ensures

pub loop-page-preserved : goal.loop-page-preserved
loop-page-preserved c =
    steps_on c.args.table.now c.args.test c.loop-page.at c.args.from c.args.end _ _ _ c.requires c.loop-page.invariant c.in-Some.ensures
    (sym (c.passes.ensures ∙ ap (page_test c.args.test) c.place_of_word.ensures) ∙ c.if-passes.false)
    c.number-in-Some.ensures.same c.new-at.ensures

pub returns : goal.returns
returns c = none_here c.args.table.now c.args.test c.loop-page.at c.args.from c.args.end c.requires c.loop-page.invariant (sym c.in_default.is ∙ c.next_word.ensures)
