use Rattle.std.proofs.Common.{◌∙◌, subst, arith}
use Rattle.hm_turns.specs.Sights.{Sight}
use Rattle.seq_copies.specs.Copies.{TakesTo}
use Rattle.hm_workers.proofs.Recorded.{checks_last, peeks_stay, taken_kept}
use Rattle.hm_workers.proofs.Watched.{seen_watched, takes_watched, watched_more}
use Rattle.hm_workers.proofs.watching.peek_last.Goals as goal

pub returns-in_err-copy-clause-peeks : goal.returns-in_err-copy-clause-peeks
returns-in_err-copy-clause-peeks g c = peeks_stay c.args.asked.now c.args.whole.now c.take_copy.new.pass c.args.peeks.now (seen_watched g.S.Stepped.legal _ _ c.in_err-copy.ensures.err).shown c.requires.peeks

pub check-requires-clause-kept : goal.check-requires-clause-kept
check-requires-clause-kept g c =
    let a = c.args.asked.now in
    let took = subst (λ x. TakesTo g.S.Stepped.legal a.proc a.addr a.len c.args.whole.now x c.take_copy.new.pass) c.in-Taken.is c.in_ok-copy.ensures.ok in
    taken_kept g.S.Stepped.legal a c.args.whole.now c.take_copy.new.pass c.in-Taken.copy took

pub check-requires-clause-peeks : goal.check-requires-clause-peeks
check-requires-clause-peeks g c =
    let a = c.args.asked.now in
    peeks_stay a c.args.whole.now c.take_copy.new.pass c.args.peeks.now (takes_watched g.S.Stepped.legal a.proc a.addr a.len _ _ _ c.in_ok-copy.ensures.ok).shown c.requires.peeks

pub returns-in_err-check-in-Taken-clause-pass : goal.returns-in_err-check-in-Taken-clause-pass
returns-in_err-check-in-Taken-clause-pass g c =
    let a = c.args.asked.now in
    watched_more 1 1 2 _ _ _ (omega arith) (takes_watched g.S.Stepped.legal a.proc a.addr a.len _ _ _ c.in_ok-copy.ensures.ok) c.check.ensures.pass

pub returns-in_ok-check-in-Taken-clause-pass : goal.returns-in_ok-check-in-Taken-clause-pass
returns-in_ok-check-in-Taken-clause-pass g c =
    let a = c.args.asked.now in
    watched_more 1 1 2 _ _ _ (omega arith) (takes_watched g.S.Stepped.legal a.proc a.addr a.len _ _ _ c.in_ok-copy.ensures.ok) c.check.ensures.pass

pub returns-in_ok-check-in-Taken-clause-last : goal.returns-in_ok-check-in-Taken-clause-last
returns-in_ok-check-in-Taken-clause-last g c =
    let a = c.args.asked.now in
    let v : Sight = c.take_copy.new.pass in
    let took = subst (λ x. TakesTo g.S.Stepped.legal a.proc a.addr a.len c.args.whole.now x v) c.in-Taken.is c.in_ok-copy.ensures.ok in
    let watched = takes_watched g.S.Stepped.legal a.proc a.addr a.len _ _ _ c.in_ok-copy.ensures.ok in
    checks_last a v c.check.new.pass c.in-Taken.copy c.args.peeks.now c.check.new.peeks c.in_ok-check-in-Taken.field-0 (watched.goes.shares ∙ c.requires.shares) took.1.at_is c.in_ok-check-in-Taken.ensures.checks c.check.ensures.peeks

pub returns-in-Halted-clause-peeks : goal.returns-in-Halted-clause-peeks
returns-in-Halted-clause-peeks g c =
    let a = c.args.asked.now in
    peeks_stay a c.args.whole.now c.take_copy.new.pass c.args.peeks.now (takes_watched g.S.Stepped.legal a.proc a.addr a.len _ _ _ c.in_ok-copy.ensures.ok).shown c.requires.peeks

pub returns-in-Locked-clause-peeks : goal.returns-in-Locked-clause-peeks
returns-in-Locked-clause-peeks g c =
    let a = c.args.asked.now in
    peeks_stay a c.args.whole.now c.take_copy.new.pass c.args.peeks.now (takes_watched g.S.Stepped.legal a.proc a.addr a.len _ _ _ c.in_ok-copy.ensures.ok).shown c.requires.peeks

pub returns-in-Unmapped-clause-peeks : goal.returns-in-Unmapped-clause-peeks
returns-in-Unmapped-clause-peeks g c =
    let a = c.args.asked.now in
    peeks_stay a c.args.whole.now c.take_copy.new.pass c.args.peeks.now (takes_watched g.S.Stepped.legal a.proc a.addr a.len _ _ _ c.in_ok-copy.ensures.ok).shown c.requires.peeks
