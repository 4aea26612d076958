use Rattle.std.proofs.Common.{refl, ap, ◌∙◌}
use Rattle.hm_history.specs.Memory.Locks.{locks_start, orphan}
use Rattle.hm_race_keys.specs.FrameTables.{lockers_in}
use Rattle.hm_race_keys.specs.PagePlaces.{places_of}
use Rattle.hm_race_states.specs.States.{state_in}
use Rattle.hm_race_states.proofs.Seens.{orphans, seen_is}
use Rattle.hm_race_states.proofs.here.Here.seen.Goals as goal

pub returns : goal.returns
returns c =
    let x = c.args.self.now.state.now in
    seen_is c.args.self.now.script.now (state_in x).after c.args.actor ((state_in x).going c.args.actor) c.args.kind.now 0 c.overlaps.result c.place_seen.result c.orphan.result c.page_seen.result
    refl c.overlaps.ensures c.place_seen.ensures
    (c.orphan.ensures ∙ (ap (λ z. orphan (record locks_start { frame = lockers_in z }) (places_of c.deref-2.result.now) c.args.kind.now) c.deref.ensures ∙ (ap (λ z. orphan (record locks_start { frame = lockers_in x.locks.value }) (places_of z) c.args.kind.now) c.deref-2.ensures ∙ orphans x c.args.kind.now)))
    c.page_seen.ensures
