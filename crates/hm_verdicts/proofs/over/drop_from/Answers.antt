use Rattle.std.proofs.Common.{◌≡◌, subst, sym, true}
use Rattle.std.proofs.lemmas.List.Elements.{All-filter}
use Rattle.std.specs.Prelude.{nat_lt}
use Rattle.std.specs.List.{All}
use Rattle.hm_verdicts.specs.Settled.{IsMark}
use Rattle.hm_verdicts.specs.declared.over.Over.{Over}
use Rattle.hm_verdicts.proofs.AreOver.{all_passing}
use Rattle.hm_verdicts.proofs.over.drop_from.Goals as goal

pub returns-then-begun-top-clause-held : goal.returns-then-begun-top-clause-held
returns-then-begun-top-clause-held c xs s = subst (All (IsMark c.args.top xs)) (sym c.drop_late.ensures)
    (All-filter (λ (o : Over). nat_lt o.of c.args.begun) (IsMark c.args.top xs) c.args.marks.now.items s)

pub returns-then-begun-top-clause-before : goal.returns-then-begun-top-clause-before
returns-then-begun-top-clause-before c xs s =
    subst (All (λ (o : Over). nat_lt o.of c.args.begun ≡ true)) (sym c.drop_late.ensures)
    (all_passing (λ (o : Over). nat_lt o.of c.args.begun) c.args.marks.now.items)
