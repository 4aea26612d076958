use Rattle.std.proofs.Common.{◌≡◌, ◌++◌, List, map, refl, sym, ap, ◌∙◌, subst}
use Rattle.hm_history.specs.Kernel.Going.{State, op_at, state_next}
use Rattle.hm_projection.proofs.Going.{entry_told, world_next}
use Rattle.hm_projection.specs.Tables.{IsDriver}
use Rattle.hm_projection.specs.Told.{TellsBefore, traced}
use Rattle.hm_protocol.specs.declared.events.Event.{Event}
use Rattle.hm_world.specs.WorldValue.{now}
use Rattle.hm_projection.proofs.entries.add_entry.Goals as goal

pub returns-clause-driver : goal.returns-clause-driver
returns-clause-driver c =
    let w = c.args.world.now in
    let e = c.args.entry.now in
    let is : now c.go_on.new.world ≡ state_next w.script (now w) e = world_next w c.go_on.new.world e c.in_ok-go_on.ensures in
    subst (λ (v : State). IsDriver v.after c.step.new.self) (sym is) (c.in_ok-step.ensures (now w).after e refl c.requires.driver)

pub returns-clause-events : goal.returns-clause-events
returns-clause-events c =
    let w = c.args.world.now in
    let u = c.go_on.new.world in
    let e = c.args.entry.now in
    let old = c.args.events.now.items in
    let first = c.add_before.new.told.items in
    let is : now u ≡ state_next w.script (now w) e = world_next w u e c.in_ok-go_on.ensures in
    c.in_ok-add_traced.ensures
    ∙ ap (λ (es : List Event). old ++ map (traced e.actor) es) c.as_slice.ensures.value
    ∙ ap (λ ts. old ++ ts) (entry_told w.script (now w) (now u) e c.in_ok-asked.asked first c.add_after.new.told.items is
    (subst (λ (xs : List Event). TellsBefore (now w).after ((now w).going e.actor) e.kind xs first (op_at w.script e.actor ((now w).going e.actor).index) c.in_ok-asked.asked) c.clear.ensures.items c.in_ok-asked.ensures)
    c.in_ok-add_after.ensures)
