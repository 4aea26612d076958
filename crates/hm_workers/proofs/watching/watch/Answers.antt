use Rattle.std.proofs.Common.{◌+◌, sym, subst, arith}
use Rattle.std.specs.Prelude.{IfSome}
use Rattle.hm_workers.specs.Watching.{HasKept, IsKept}
use Rattle.hm_workers.proofs.Watched.{watched_more}
use Rattle.hm_workers.proofs.watching.watch.Goals as goal
use Rattle.hm_workers.proofs.watching.watch.Goals.{in-Copied, in-Kept, in-Nothing}

pub returns-in_err-taken-clause-pass : goal.returns-in_err-taken-clause-pass
returns-in_err-taken-clause-pass g c = let i = c.loop-tries.invariant in watched_more c.loop-tries.tries 1 100000 _ _ _ (omega (arith, c.loop-tries-test.true)) i.pass c.try_once.ensures.pass

pub loop-tries-preserved : goal.loop-tries-preserved
loop-tries-preserved g c =
    let i = c.loop-tries.invariant in
    let a = c.args.asked.now in
    let list = c.try_once.new.pass.list in
    record {
      kept = elim c.match-branch-2.branch [
        | in-Copied w ↦ subst (λ o. IfSome o (λ s. IsKept a list s)) (sym w.copy-is) (subst (HasKept a list) w.in-Copied.is c.in_ok-taken.ensures.kept)
        | in-Kept w ↦ subst (λ o. IfSome o (λ s. IsKept a list s)) (sym w.copy-is) (subst (HasKept a list) w.in-Kept.is c.in_ok-taken.ensures.kept)
        | in-Nothing w ↦ subst (λ o. IfSome o (λ s. IsKept a list s)) (sym w.copy-is) tt
      ];
      peeks = c.try_once.ensures.peeks;
      few = let more = c.try_once.ensures.more in omega (arith, more, c.if-len-ge-MOST_PEEKS.false, c.len.ensures);
      pass = watched_more c.loop-tries.tries 1 (c.loop-tries.tries + 1) _ _ _ (omega arith) i.pass c.try_once.ensures.pass;
    }

pub returns-in-Halted-clause-pass : goal.returns-in-Halted-clause-pass
returns-in-Halted-clause-pass g c = let i = c.loop-tries.invariant in watched_more c.loop-tries.tries 1 100000 _ _ _ (omega (arith, c.loop-tries-test.true)) i.pass c.try_once.ensures.pass
