use Rattle.std.proofs.Common.{◌≡◌, Bool, true, false, refl, ap, ◌∙◌, arith}
use Rattle.std.specs.Rc.{rc_value}
use Rattle.hm_history.specs.Memory.Words.{with_at}
use Rattle.hm_folds.proofs.Writes.{written_at}
use Rattle.hm_race_states.specs.Spaces.{spaces_in}
use Rattle.hm_race_states.proofs.AreaLists.{made, areas_set, areas_read}
use Rattle.hm_race_states.proofs.spaces.RaceSpaces.fork.Goals as goal

pub returns : goal.returns
returns c =
    let x = c.args.self.now in
    let s = spaces_in x in
    let child = c.in_ok-of_child.of_child in
    let read = areas_read rc_value x.areas.items c.number.result c.args.parent c.index.result.now _ c.index.ensures c.number.ensures.same (omega (arith, x.sized, c.number.ensures.below)) in
    let same : rc_value child ≡ rc_value c.index.result.now = c.in_ok-of_child.ensures.cases in
    let areas = areas_set rc_value x.areas.items c.number-2.result c.args.child child _ c.number-2.ensures.same (omega (arith, x.sized, c.number-2.ensures.same, c.number-2.ensures.below)) (same ∙ read) in
    let there = written_at (λ (b : Bool). b) x.there c.number-3.result c.args.child true false true c.number-3.ensures.same (omega (arith, c.number-3.ensures.same, c.number-3.ensures.below)) refl in
    ap (made _ s.named) areas ∙ ap (λ t. made t s.named (with_at s.areas c.args.child (s.areas c.args.parent))) there
