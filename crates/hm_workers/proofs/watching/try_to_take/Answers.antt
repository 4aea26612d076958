use Rattle.std.proofs.Common.{subst}
use Rattle.seq_copies.specs.Copies.{TakesTo}
use Rattle.hm_workers.proofs.Recorded.{taken_kept}
use Rattle.hm_workers.proofs.watching.try_to_take.Goals as goal

pub returns-in-Taken-clause-kept : goal.returns-in-Taken-clause-kept
returns-in-Taken-clause-kept g c =
    let a = c.args.asked.now in
    let took = subst (λ x. TakesTo g.S.Stepped.legal a.proc a.addr a.len c.args.pass.now x c.take_copy.new.pass) c.in-Taken.is c.in_ok-copy.ensures.ok in
    taken_kept g.S.Stepped.legal a c.args.pass.now c.take_copy.new.pass c.in-Taken.copy took
