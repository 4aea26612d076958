use Rattle.std.proofs.Common.{◌∙◌, sym}
use Rattle.hm_race_top.proofs.Drains.{drain_at, none_at}
use Rattle.hm_race_top.proofs.ways.has_drain.Goals as goal

pub returns-in-Drain : goal.returns-in-Drain
returns-in-Drain c = sym (drain_at c.args.lines.now c.loop-line.line-index _ c.loop-line-test.true (sym c.line-item.is ∙ c.in-Drain.is))

pub loop-line-preserved : goal.loop-line-preserved
loop-line-preserved c = none_at c.args.lines.now c.loop-line.line-index _ _ _ c.loop-line-test.true (sym c.line-item.is ∙ c.in-Run.is) c.loop-line.invariant
