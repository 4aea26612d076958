use Rattle.std.proofs.Common.{◌≡◌, ◌∙◌, ◌<◌, length, ap, arith, false}
use Rattle.std.specs.Prelude.{insert}
use Rattle.hm_base.specs.Areas.{with_area, meets}
use Rattle.hm_base.specs.declared.area.Area.{Area}
use Rattle.vm_areas.specs.Order.{place_of}
use Rattle.vm_areas.proofs.Added.{added, rising_added, may_insert}
use Rattle.vm_areas.proofs.Areas.add.Goals as goal
use Rattle.hm_base.proofs.Shared.{length_with_area}

pub invariant_of-self : goal.invariant_of-self
invariant_of-self c =
    let areas = c.self.inside.areas.items in
    let area : Area = record { span = c.args.span; rights = c.args.rights } in
    let may = may_insert c.args.span c.args.self.now c.requires in
    let free : meets c.args.span areas ≡ false = rw c.self.view_is may.0 in
    let room : length areas < 64 = rw c.self.view_is may.1 in
    let place : c.place_of-place.result ≡ place_of c.args.span.first areas = cc in
    let items : c.insert.new.self.items ≡ with_area area areas = c.in-Ok.ensures.items ∙ ap (λ i. insert areas i area) place ∙ added area 0 areas c.self.invariant.areas.rising c.first.ensures.span.some free in
    record {
      areas = record {
        few = rw (items, length_with_area) (omega arith);
        rising = rw items (rising_added area 0 areas c.self.invariant.areas.rising (omega arith) c.first.ensures.span.some free);
      };
      fit = omega (arith, c.in-Ok.ensures.capacity, c.self.invariant.fit);
    }

pub returns : goal.returns
returns c =
    let areas = c.self.inside.areas.items in
    let area : Area = record { span = c.args.span; rights = c.args.rights } in
    let may = may_insert c.args.span c.args.self.now c.requires in
    let free : meets c.args.span areas ≡ false = rw c.self.view_is may.0 in
    let place : c.place_of-place.result ≡ place_of c.args.span.first areas = cc in
    c.in-Ok.ensures.items ∙ ap (λ i. insert areas i area) place ∙ added area 0 areas c.self.invariant.areas.rising c.first.ensures.span.some free ∙ ap (with_area area) c.self.view_is
