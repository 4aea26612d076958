use Rattle.std.proofs.Common.{◌≡◌, Some, None, sym}
use Rattle.std.specs.Prelude.{slice_get}
use Rattle.vm_areas.specs.Order.{place_of}
use Rattle.vm_areas.proofs.Searched.{meets_at, meets_none}
use Rattle.vm_areas.proofs.Areas.meets.Goals as goal

pub returns-in-Some : goal.returns-in-Some
returns-in-Some c =
    let areas = c.self.inside.areas.items in
    let at : slice_get areas (place_of c.args.span.first areas) ≡ Some c.in-Some.area = cc (c.in-Some.ensures) in
    rw (← c.self.view_is, c.number-in-Some.ensures.same, c.first-in-Some.ensures.same, c.last_of.ensures.last) (sym (meets_at c.args.span 0 areas c.self.invariant.areas.rising c.in-Some.area at))

pub returns-in-None : goal.returns-in-None
returns-in-None c =
    let areas = c.self.inside.areas.items in
    let at : slice_get areas (place_of c.args.span.first areas) ≡ None = cc (c.in-None.ensures) in
    rw (← c.self.view_is) (sym (meets_none c.args.span 0 areas c.self.invariant.areas.rising at))
