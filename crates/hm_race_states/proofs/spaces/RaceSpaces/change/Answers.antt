use Rattle.std.proofs.Common.{ap, ◌∙◌, arith}
use Rattle.std.specs.Rc.{rc_value}
use Rattle.hm_race_states.specs.Changes.{changed_to}
use Rattle.hm_race_states.specs.Spaces.{spaces_in}
use Rattle.hm_race_states.proofs.AreaLists.{made, areas_set}
use Rattle.hm_race_states.proofs.spaces.RaceSpaces.change.Goals as goal

pub returns : goal.returns
returns c =
    let x = c.args.self.now in
    ap (made (spaces_in x).there (spaces_in x).named) (areas_set rc_value x.areas.items c.number.result c.args.proc c.in_ok-self.field-0 _ c.number.ensures.same (omega (arith, x.sized, c.number.ensures.same, c.number.ensures.below))
    (c.in_ok-self.ensures.ok ∙ (c.in_ok-areas.ensures ∙ ap (changed_to c.args.change) c.areas.ensures)))
