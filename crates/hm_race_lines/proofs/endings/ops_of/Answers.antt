use Rattle.std.proofs.Common.{◌≡◌, true, length, sym, ap, ◌∙◌, subst}
use Rattle.std.specs.Prelude.{slice_get}
use Rattle.std.specs.List.{list_all}
use Rattle.hm_base.specs.Program.{Program, op_in_range}
use Rattle.hm_race_lines.proofs.Scripts.{all_in_range}
use Rattle.hm_race_lines.proofs.endings.ops_of.Goals as goal

pub returns-in-Some-clause-in_range : goal.returns-in-Some-clause-in_range
returns-in-Some-clause-in_range c =
    let s = c.args.script.now in
    subst (λ os. list_all (λ o. op_in_range o) os ≡ true) (sym c.as_slice.ensures)
    (all_in_range (length s.devices) s.actors c.args.actor c.in-Some.ops.now c.facts.ensures.ops
    (sym (c.in-Some.ensures ∙ ap (λ (p : Program). slice_get p.actors c.args.actor) c.script.view_is)))
