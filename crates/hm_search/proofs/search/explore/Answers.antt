use Rattle.std.proofs.Common.{arith}
use Rattle.std.proofs.lemmas.Grind.{common_steps}
use Rattle.hm_search.proofs.Steps.{ends_all, ends_cut, ends_known, ends_distinct, ends_rising, ends_fewest, ends_fewer}
use Rattle.hm_search.proofs.search.explore.Goals as goal

pub returns-clause-all : goal.returns-clause-all
returns-clause-all g c e = ends_all (g.S.System.value c.args.system.now) g.S.System.form g.S.Key.SearchKey.form g.S.Key.SearchKey.number g.S.Key.SearchKey.Valid _ _ c.args.most c.in_ok-stopped.stopped.reached c.in_ok-stopped.ensures.searched c.facts.ensures.system (c.end_of-end.ensures.whole e).0 (grind (arith, common_steps, (c.end_of-end.ensures.whole e).1))

pub returns-clause-cut : goal.returns-clause-cut
returns-clause-cut g c e = ends_cut (g.S.System.value c.args.system.now) g.S.System.form g.S.Key.SearchKey.form g.S.Key.SearchKey.number g.S.Key.SearchKey.Valid _ _ c.args.most c.in_ok-stopped.stopped.reached c.in_ok-stopped.ensures.searched (grind (arith, common_steps, c.end_of-end.ensures.cut e))

pub returns-clause-reached : goal.returns-clause-reached
returns-clause-reached g c e = c.in_ok-stopped.ensures.reached (c.end_of-end.ensures.reached e)

pub returns-clause-known : goal.returns-clause-known
returns-clause-known g c = ends_known (g.S.System.value c.args.system.now) g.S.System.form g.S.Key.SearchKey.form g.S.Key.SearchKey.number g.S.Key.SearchKey.Valid _ _ c.args.most c.in_ok-stopped.stopped.reached c.in_ok-stopped.ensures.searched

pub returns-clause-distinct : goal.returns-clause-distinct
returns-clause-distinct g c = ends_distinct (g.S.System.value c.args.system.now) g.S.System.form g.S.Key.SearchKey.form g.S.Key.SearchKey.number g.S.Key.SearchKey.Valid _ _ c.args.most c.in_ok-stopped.stopped.reached c.in_ok-stopped.ensures.searched c.facts.ensures.apart

pub returns-clause-rising : goal.returns-clause-rising
returns-clause-rising g c = ends_rising (g.S.System.value c.args.system.now) g.S.System.form g.S.Key.SearchKey.form g.S.Key.SearchKey.number g.S.Key.SearchKey.Valid _ _ c.args.most c.in_ok-stopped.stopped.reached c.in_ok-stopped.ensures.searched

pub returns-clause-fewest : goal.returns-clause-fewest
returns-clause-fewest g c = ends_fewest (g.S.System.value c.args.system.now) g.S.System.form g.S.Key.SearchKey.form g.S.Key.SearchKey.number g.S.Key.SearchKey.Valid _ _ c.args.most c.in_ok-stopped.stopped.reached c.in_ok-stopped.ensures.searched c.facts.ensures.system c.facts.ensures.apart

pub returns-clause-below : goal.returns-clause-below
returns-clause-below g c = ends_fewer (g.S.System.value c.args.system.now) g.S.System.form g.S.Key.SearchKey.form g.S.Key.SearchKey.number g.S.Key.SearchKey.Valid _ _ c.args.most c.in_ok-stopped.stopped.reached c.in_ok-stopped.ensures.searched c.facts.ensures.system
