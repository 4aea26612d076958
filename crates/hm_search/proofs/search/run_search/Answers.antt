use Rattle.std.proofs.Common.{inl, inr, [], refl, arith, rules}
use Rattle.hm_search.proofs.Coming.{grown_first, missed_step, reaches_step, soon_step}
use Rattle.hm_search.proofs.Steps.{grown_length}
use Rattle.hm_search.proofs.search.run_search.Goals as goal

pub returns-then-branch-clause-reached : goal.returns-then-branch-clause-reached
returns-then-branch-clause-reached g c e =
    let first = c.in_ok-states.states.known.items in
    reaches_step g.G.Goal.read (g.G.Goal.reached c.args.goal.now) [] first 1 0 c.in_ok-has_come.field-0 (grown_first first c.in_ok-states.ensures.one) refl c.in_ok-has_come.ensures.come c.if-branch.true

pub returns-then-branch-clause-soon : goal.returns-then-branch-clause-soon
returns-then-branch-clause-soon g c e =
    let first = c.in_ok-states.states.known.items in
    soon_step g.G.Goal.read (g.G.Goal.reached c.args.goal.now) [] first 1 0 c.in_ok-has_come.field-0 (grown_first first c.in_ok-states.ensures.one) refl c.in_ok-has_come.ensures.come
    (g.S.System.value c.args.system.now).actors (λ n l e. absurd l) (inr c.in_ok-states.ensures.one)

pub loop-at-init : goal.loop-at-init
loop-at-init g c =
    let first = c.in_ok-states.states.known.items in
    record {
      searching = c.in_ok-states.ensures.searching;
      reached = omega arith;
      near = inr c.in_ok-states.ensures.one;
      missed = missed_step g.G.Goal.read (g.G.Goal.reached c.args.goal.now) [] first 1 0 c.in_ok-has_come.field-0 (grown_first first c.in_ok-states.ensures.one) refl c.in_ok-has_come.ensures.come (λ n l e. absurd l) c.if-branch.false;
      kept = c.in_ok-states.ensures.kept;
    }

pub returns-then-branch-2-clause-reached : goal.returns-then-branch-2-clause-reached
returns-then-branch-2-clause-reached g c e =
    reaches_step g.G.Goal.read (g.G.Goal.reached c.args.goal.now) c.loop-at.states.known.items c.step.new.states.known.items ((g.S.System.value c.args.system.now).actors) c.len-found.result c.in_ok-has_come-2.field-0
    c.in_ok-step.ensures.grown (search rules) (search rules) c.if-branch-2.true

pub returns-then-branch-2-clause-soon : goal.returns-then-branch-2-clause-soon
returns-then-branch-2-clause-soon g c e =
    soon_step g.G.Goal.read (g.G.Goal.reached c.args.goal.now) c.loop-at.states.known.items c.step.new.states.known.items ((g.S.System.value c.args.system.now).actors) c.len-found.result c.in_ok-has_come-2.field-0
    c.in_ok-step.ensures.grown (search rules) (search rules) (g.S.System.value c.args.system.now).actors c.loop-at.invariant.missed (inl (omega arith))

pub loop-at-preserved : goal.loop-at-preserved
loop-at-preserved g c =
    let more = (g.S.System.value c.args.system.now).actors in
    let grown = grown_length c.loop-at.states.known.items c.step.new.states.known.items more c.in_ok-step.ensures.grown in
    record {
      searching = search rules;
      reached = omega (arith, c.if-found-at.false, c.len-found.ensures, grown.0);
      near = inl (omega (arith, c.if-found-most.false, c.len-found.ensures, grown.1));
      missed = missed_step g.G.Goal.read (g.G.Goal.reached c.args.goal.now) c.loop-at.states.known.items c.step.new.states.known.items more c.len-found.result c.in_ok-has_come-2.field-0
          c.in_ok-step.ensures.grown (search rules) (search rules) c.loop-at.invariant.missed c.if-branch-2.false;
      kept = c.in_ok-step.ensures.kept;
    }
