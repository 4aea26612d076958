use Rattle.std.proofs.Common.{◌≡◌, List, map, subst}
use Rattle.hm_history.specs.declared.phases.Phase.{Phase}
use Rattle.hm_race_states.specs.Blurs.{blurred_phase}
use Rattle.hm_race_states.proofs.tasks.RaceTask.made.Goals as goal

pub invariant_of-result-clause-notes : goal.invariant_of-result-clause-notes
invariant_of-result-clause-notes c = λ e own little. subst (λ (xs : List Phase). map (blurred_phase own little) xs ≡ xs) c.items.ensures (c.all_note_nothing-quiet.ensures e own little)
