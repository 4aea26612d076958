use Rattle.std.proofs.Common.{sym, subst}
use Rattle.hm_race_top.specs.Run.Played.{IsAt}
use Rattle.hm_race_top.proofs.Playing.{at_start}
use Rattle.hm_race_top.proofs.run.played.Order.new.Goals as goal

pub returns-in-Ok-clause-at : goal.returns-in-Ok-clause-at
returns-in-Ok-clause-at c =
    subst (IsAt c.args.race.now c.in-Ok.key) (sym c.new.ensures)
    (at_start c.args.race.now c.stands.ensures c.facts.ensures.system c.in-Ok.key c.in-Ok.ensures.form c.in-Ok.ensures.kept)
