use Rattle.std.proofs.Common.{Bool, false, [], refl, ap, ◌∙◌, arith}
use Rattle.std.specs.Rc.{rc_value}
use Rattle.hm_history.specs.Memory.Words.{with_at}
use Rattle.hm_folds.proofs.Writes.{written_at}
use Rattle.hm_race_states.specs.Spaces.{spaces_in}
use Rattle.hm_race_states.proofs.AreaLists.{made, areas_set}
use Rattle.hm_race_states.proofs.spaces.RaceSpaces.exit.Goals as goal

pub returns : goal.returns
returns c =
    let x = c.args.self.now in
    let s = spaces_in x in
    let areas = areas_set rc_value x.areas.items c.number.result c.args.proc c.in_ok-self.field-0 _ c.number.ensures.same (omega (arith, x.sized, c.number.ensures.same, c.number.ensures.below)) (c.in_ok-self.ensures.ok ∙ c.in_ok-new.ensures) in
    let there = written_at (λ (b : Bool). b) x.there c.number-2.result c.args.proc false false false c.number-2.ensures.same (omega (arith, c.number-2.ensures.same, c.number-2.ensures.below)) refl in
    ap (made _ s.named) areas ∙ ap (λ t. made t s.named (with_at s.areas c.args.proc [])) there
