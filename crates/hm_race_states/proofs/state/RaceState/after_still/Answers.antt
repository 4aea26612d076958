use Rattle.std.proofs.Common.{◌∙◌, ap, sym, Global, List, map}
use Rattle.std.specs.Rc.{rc_value}
use Rattle.std.specs.declared.rc.Rc.{Rc}
use Rattle.hm_race_states.specs.Goings.{blurred_goings, goings_with}
use Rattle.hm_race_states.specs.Small.{kept_seqs, settled, unguarded}
use Rattle.hm_race_states.specs.Tasks.{going_in}
use Rattle.hm_race_states.specs.declared.small.SmallSeqs.{SmallSeqs}
use Rattle.hm_race_states.specs.declared.tasks.RaceTask.{RaceTask}
use Rattle.hm_race_states.proofs.Nexts.{goings_on}
use Rattle.hm_race_states.proofs.state.RaceState.after_still.Goals as goal

pub rest_after-requires-clause-seqs : goal.rest_after-requires-clause-seqs
rest_after-requires-clause-seqs c = ap kept_seqs c.in_ok-seqs.ensures.cases ∙ (sym c.requires.steady ∙ ap settled (sym c.requires.still))

pub rest_after-requires-clause-goings : goal.rest_after-requires-clause-goings
rest_after-requires-clause-goings c =
    let x = c.args.self.now in
    let e = c.args.entry.now in
    let g = going_in c.args.moved.now.value in
    λ a. c.in_ok-tasks.ensures.goings a
    ∙ (ap (λ (ts : List (Rc RaceTask Global)). blurred_goings c.args.script.now (kept_seqs c.deref-2.result.now) (goings_with (map rc_value ts) e.actor g) a) c.deref.ensures.value
    ∙ (ap (λ (q : SmallSeqs). blurred_goings c.args.script.now (kept_seqs q) (goings_with (map rc_value x.tasks.items) e.actor g) a) (c.deref-2.ensures ∙ c.in_ok-seqs.ensures.cases)
    ∙ goings_on c.args.script.now x e (kept_seqs x.seqs.value) g (ap unguarded (sym c.requires.still)) c.requires.moved a))
