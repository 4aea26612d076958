use Rattle.std.proofs.Common.{None, ap, arith}
use Rattle.std.specs.Prelude.{Option}
use Rattle.std.proofs.Math.ListN.{get_or-eq_default}
use Rattle.hm_folds.specs.Kept.{interval_of}
use Rattle.hm_folds.specs.declared.intervals.KeptInterval.{KeptInterval}
use Rattle.hm_flaw_states.proofs.set_ups.none_past.Goals as goal

pub returns : goal.returns
returns c = λ m l.
    let none : Option KeptInterval = None in
    ap interval_of (get_or-eq_default c.args.intervals.now none (omega (arith, l)))
