use Rattle.std.proofs.Common.{◌∙◌, ap}
use Rattle.hm_history.specs.Memory.Locks.{locks_start, orphan}
use Rattle.hm_race_keys.specs.FrameTables.{lockers_in}
use Rattle.hm_race_keys.specs.PagePlaces.{places_in, places_of}
use Rattle.hm_race_keys.specs.Trail.{lockers_next, entry_old}
use Rattle.hm_race_states.proofs.after.places_after.Goals as goal

pub returns : goal.returns
returns c =
    let x = c.args.state.now in
    let k = c.args.kind.now in
    record {
      place = c.in_ok-new_places.ensures;
      held = c.in_ok-held_after.ensures;
      table = c.in_ok-tables_after.ensures;
      locks = c.in_ok-locks_after.ensures ∙ ap (λ p. lockers_next (lockers_in x.locks.value) c.args.actor k (entry_old (places_in p) k) (orphan (record locks_start { frame = lockers_in x.locks.value }) (places_of p) k)) c.deref.ensures;
    }
