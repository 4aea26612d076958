use Rattle.std.proofs.Common.{sym, map, refl, ap, ◌∙◌}
use Rattle.hm_history.specs.Memory.Sequences.{interval_seq}
use Rattle.hm_history.specs.Kernel.Going.{Going, op_at}
use Rattle.hm_race_laws.specs.Numbers.{mirror_of}
use Rattle.hm_race_states.specs.Blurs.{blurred_phase}
use Rattle.hm_race_states.specs.Tasks.{going_in}
use Rattle.hm_race_states.specs.declared.tasks.RaceTask.{RaceTask}
use Rattle.hm_race_states.proofs.Blurring.{going_same, stays_blurred}
use Rattle.hm_race_states.proofs.next.blurred.Goals as goal

pub returns-then-deref : goal.returns-then-deref
returns-then-deref g c =
    let t : RaceTask = c.args.task.now.value in
    ap going_in c.in_ok-clone.ensures.cases ∙ stays_blurred c.args.script.now (g.C.Came.seqs c.args.came.now) c.args.actor t t.stack refl (t.notes (sym (ap (λ (z : RaceTask). z.quiet) c.deref.ensures) ∙ c.if-deref.true))

pub returns : goal.returns
returns g c =
    let t : RaceTask = c.args.task.now.value in
    let a = c.args.actor in
    let m = c.mirror_of-mirror.result in
    let own = c.own_seq-own.result in
    let little = c.interval_seq-small.result in
    ap going_in c.in_ok-new.ensures.ok ∙ (c.in_ok-blurred.ensures ∙ (ap {B = Going} (λ (z : RaceTask). record { index = z.index; stack = map (blurred_phase own little) z.stack; pages = z.records }) c.deref-3.ensures
    ∙ going_same c.args.script.now (g.C.Came.seqs c.args.came.now) a own little m (going_in t) (map (blurred_phase own little) t.stack)
    (c.mirror_of-mirror.ensures ∙ ap (λ (z : RaceTask). mirror_of (op_at c.args.script.now a (going_in z).index)) c.deref-2.ensures)
    c.own_seq-own.ensures
    (c.interval_seq-small.ensures ∙ ap (λ q. interval_seq q m) c.requires)
    refl))
