use Rattle.std.proofs.Common.{arith}
use Rattle.radix_tables.specs.Levels.{word_of}
use Rattle.radix_tables.proofs.Lasts.{joined, least_before, none_on}
use Rattle.radix_tables.proofs.Made.{word_below}
use Rattle.radix_tables.proofs.levels.Levels.next.Goals as goal

pub returns-in-Some : goal.returns-in-Some
returns-in-Some c =
    rw c.before-in-Some.ensures
    (least_before (word_of c.args.self.now) c.args.page c.loop-at.at c.args.end c.in-Some.found c.loop-at.invariant.past c.loop-at.invariant.none c.in-Some.ensures)

pub loop-at-preserved-in-Gap : goal.loop-at-preserved-in-Gap
loop-at-preserved-in-Gap c = record {
  past = omega (arith, c.loop-at.invariant.past, c.in-Gap.ensures.0);
  none = joined (word_of c.args.self.now) c.args.page c.loop-at.at _ c.loop-at.invariant.none c.in-Gap.ensures.1;
}

pub loop-at-preserved : goal.loop-at-preserved
loop-at-preserved c = record {
  past = omega (arith, c.loop-at.invariant.past, c.past_unused-at.ensures.further);
  none =
      joined (word_of c.args.self.now) c.args.page _ _
      (joined (word_of c.args.self.now) c.args.page c.loop-at.at _ c.loop-at.invariant.none c.in_default.ensures) c.past_unused-at.ensures.none;
}

pub returns : goal.returns
returns c = none_on (word_of c.args.self.now) c.args.page c.loop-at.at c.args.end _ (word_below c.args.self.now c.requires.levels) c.loop-at.invariant.none c.min-last.ensures (omega (arith, c.loop-at-test.false))
