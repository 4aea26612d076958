use Rattle.std.proofs.Common.{length, ap, ◌∙◌, arith}
use Rattle.hm_workers.specs.Working.{numbered}
use Rattle.hm_workers.proofs.Numbers.{jobs_fine, all_work}
use Rattle.hm_workers.proofs.workers.run_actors.Goals as goal

pub jobs_of-requires : goal.jobs_of-requires
jobs_of-requires g c = let e = ap length c.passes.view_is in let few = c.facts.ensures.few_actors in omega (arith, c.requires.count)

pub run_jobs-requires-after_bounds : goal.run_jobs-requires-after_bounds
run_jobs-requires-after_bounds g c κs within = λ i j lt e. let f = jobs_fine c.args.passes c.in_ok-jobs.jobs.items c.args.turns.now i j (c.in_ok-jobs.ensures ∙ ap (numbered 0) c.passes.view_is) c.requires.own lt e in
    (f.0, let n = f.1 in omega (arith, c.requires.count))

pub returns-in-Ok : goal.returns-in-Ok
returns-in-Ok g c = all_work g.S.Stepped.due c.args.passes _ c.in_ok-jobs.jobs.items (c.in_ok-jobs.ensures ∙ ap (numbered 0) c.passes.view_is) c.in-Ok.ensures.len c.in-Ok.ensures.each
