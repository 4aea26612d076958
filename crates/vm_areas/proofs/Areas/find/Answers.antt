use Rattle.std.proofs.Common.{◌≡◌, Some, None, sym, arith}
use Rattle.std.specs.Prelude.{slice_get}
use Rattle.vm_areas.specs.Order.{place_of}
use Rattle.vm_areas.proofs.Searched.{found_at, after_page, none_at}
use Rattle.vm_areas.proofs.Areas.find.Goals as goal

pub returns-in-Some : goal.returns-in-Some
returns-in-Some c =
    let areas = c.self.inside.areas.items in
    let at : slice_get areas (place_of c.args.page areas) ≡ Some c.in-Some.area = cc (c.in-Some.ensures) in
    rw (← c.self.view_is) (sym (found_at c.args.page 0 areas c.self.invariant.areas.rising c.in-Some.area at (omega arith)))

pub returns-in_default : goal.returns-in_default
returns-in_default c =
    let areas = c.self.inside.areas.items in
    let at : slice_get areas (place_of c.args.page areas) ≡ Some c.in-Some.area = cc (c.in-Some.ensures) in
    rw (← c.self.view_is) (sym (after_page c.args.page 0 areas c.self.invariant.areas.rising c.in-Some.area at (omega arith)))

pub returns-in_default-2 : goal.returns-in_default-2
returns-in_default-2 c =
    let areas = c.self.inside.areas.items in
    let at : slice_get areas (place_of c.args.page areas) ≡ None = cc (c.in_default.ensures) in
    rw (← c.self.view_is) (sym (none_at c.args.page 0 areas c.self.invariant.areas.rising at))
