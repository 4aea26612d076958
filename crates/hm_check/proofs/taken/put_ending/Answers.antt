use Rattle.std.proofs.Common.{List, [], sym, ap, ◌∙◌, subst}
use Rattle.hm_base.specs.Program.{Program}
use Rattle.hm_check.specs.Parts.{tail_of}
use Rattle.hm_history.specs.Laws.{DueFrom}
use Rattle.hm_history.specs.declared.Entry.{Entry}
use Rattle.hm_check.proofs.taken.put_ending.Goals as goal

pub put_tail-requires : goal.put_tail-requires
put_tail-requires c =
    subst (λ (p : Program). DueFrom p [] c.history.result.now.entries) (sym c.script.ensures)
    (subst (λ (h : List Entry). DueFrom c.args.world.now.script [] h) (sym c.history.ensures) c.facts.ensures.due)

pub returns-clause-text : goal.returns-clause-text
returns-clause-text c =
    c.put_tail.ensures.text
    ∙ ap (λ (p : Program). tail_of p c.history.result.now.entries) c.script.ensures
    ∙ ap (tail_of c.args.world.now.script) c.history.ensures

pub returns-clause-few : goal.returns-clause-few
returns-clause-few c = c.put_tail.ensures.few
