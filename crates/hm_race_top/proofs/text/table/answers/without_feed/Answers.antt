use Rattle.std.proofs.Common.{◌==◌, sym}
use Rattle.hm_race_top.proofs.Firsts.{before_found, before_none}
use Rattle.hm_race_top.proofs.text.table.answers.without_feed.Goals as goal

pub returns-in-Some : goal.returns-in-Some
returns-in-Some c = before_found (λ b. b == 10) c.args.line.now c.in-Some.end (sym c.in-Some.ensures.gives)

pub returns-in-None : goal.returns-in-None
returns-in-None c = before_none (λ b. b == 10) c.args.line.now (sym c.in-None.ensures.gives)
