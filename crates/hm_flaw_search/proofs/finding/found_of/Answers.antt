use Rattle.std.proofs.Common.{IfOk, map, subst, sym}
use Rattle.hm_search.specs.Values.{all_known, at_goal}
use Rattle.hm_search.specs.declared.search.End.{End}
use Rattle.hm_flaw_parts.specs.Judged.{judged_parts}
use Rattle.hm_flaw_states.specs.Keyed.{form_in}
use Rattle.hm_flaw_search.specs.Finding.{IsFoundFirst, goal_of}
use Rattle.hm_flaw_search.proofs.finding.found_of.Goals as goal

pub returns-in-Reached-clause-found : goal.returns-in-Reached-clause-found
returns-in-Reached-clause-found c =
    let r = c.args.race.now in
    let ns = c.args.known.now in
    subst (λ (z : End). IfOk c.found_first.result (λ s. IsFoundFirst (judged_parts r.judging) r.flaw r.script r.set_up (all_known form_in ns) (map (at_goal form_in (goal_of r.flaw r.script z)) ns) s.found)) (sym c.in-Reached.is) c.found_first.ensures.found
