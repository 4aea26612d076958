use Rattle.std.proofs.Common.{◌∙◌, ap, Global, List, map}
use Rattle.std.specs.Rc.{rc_value}
use Rattle.std.specs.declared.rc.Rc.{Rc}
use Rattle.hm_history.specs.Memory.Sequences.{sequences_next}
use Rattle.hm_race_states.specs.Goings.{blurred_goings, goings_with}
use Rattle.hm_race_states.specs.Small.{between_seqs, kept_seqs, settled, unguarded}
use Rattle.hm_race_states.specs.Tasks.{going_in}
use Rattle.hm_race_states.specs.declared.tasks.RaceTask.{RaceTask}
use Rattle.hm_race_states.proofs.Nexts.{goings_on}
use Rattle.hm_race_states.proofs.state.RaceState.after_change.Goals as goal

pub rest_after-requires-clause-seqs : goal.rest_after-requires-clause-seqs
rest_after-requires-clause-seqs c =
    let x = c.args.self.now in
    let e = c.args.entry.now in
    c.in_ok-seqs-2.ensures ∙ (ap kept_seqs c.in_ok-seqs.ensures.ok ∙ (c.in_ok-settled.ensures ∙ ap settled (c.after-between.ensures e.actor ∙ ap (λ q. unguarded (sequences_next (kept_seqs q) e.actor e.kind)) c.deref.ensures)))

pub rest_after-requires-clause-goings : goal.rest_after-requires-clause-goings
rest_after-requires-clause-goings c =
    let x = c.args.self.now in
    let e = c.args.entry.now in
    let g = going_in c.args.moved.now.value in
    λ a. c.in_ok-tasks.ensures.goings a
    ∙ (ap (λ (ts : List (Rc RaceTask Global)). blurred_goings c.args.script.now (between_seqs c.after-between.result) (goings_with (map rc_value ts) e.actor g) a) c.deref-2.ensures.value
    ∙ goings_on c.args.script.now x e (between_seqs c.after-between.result) g (c.after-between.ensures e.actor ∙ ap (λ q. unguarded (sequences_next (kept_seqs q) e.actor e.kind)) c.deref.ensures) c.requires.moved a)
