use Rattle.std.proofs.Common.{◌≡◌, List, Global, Option, map, sym, ap, subst, ◌∙◌}
use Rattle.std.specs.Prelude.{IfOk}
use Rattle.std.specs.Rc.{rc_value}
use Rattle.std.specs.declared.rc.Rc.{Rc}
use Rattle.hm_flaws.specs.Recalled.{broken_part_in}
use Rattle.hm_flaws.specs.declared.parts.Part.{Part}
use Rattle.hm_flaw_parts.specs.Judged.{judged_parts}
use Rattle.hm_flaw_parts.specs.Marks.{marks_in, recalled_by}
use Rattle.hm_flaw_parts.specs.declared.marks.Marks.{Marks}
use Rattle.hm_race_states.specs.States.{goings_in}
use Rattle.hm_race_states.specs.declared.tasks.RaceTask.{RaceTask}
use Rattle.hm_flaw_states.specs.States.{state_in}
use Rattle.hm_flaw_states.specs.Tidy.{TidyFor}
use Rattle.hm_flaw_states.specs.declared.state.FlawState.{FlawState}
use Rattle.hm_flaw_states.proofs.turns.broken_at.Goals as goal

pub returns : goal.returns
returns c =
    let k = c.args.key.now in
    let e = c.args.entry.now in
    let says = λ (x : FlawState) (m : Marks). IfOk c.first_broken.result (λ (o : Option Part). o ≡ broken_part_in (judged_parts c.args.judging) c.args.script.now (recalled_by (state_in x).after (marks_in m)) (state_in x).going e) in
    subst (λ (x : FlawState). says x k.marks.value) c.deref-state.ensures (subst (says c.deref-state.result.now) c.deref-marks.ensures c.first_broken.ensures)

pub first_broken-requires : goal.first_broken-requires
first_broken-requires c = record {
  tidy = subst (λ (x : FlawState). TidyFor c.args.judging (state_in x).after.places) (sym c.deref-state.ensures) c.requires.tidy;
  records = c.records_of-records.ensures ∙ ap (λ (xs : List (Rc RaceTask Global)). (goings_in (map rc_value xs) c.args.entry.now.actor).pages) c.deref.ensures.value;
}
