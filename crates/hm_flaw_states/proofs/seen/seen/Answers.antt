use Rattle.hm_race_states.proofs.Seens.{seen_is}
use Rattle.hm_flaw_states.proofs.seen.seen.Goals as goal

pub returns-clause-seen : goal.returns-clause-seen
returns-clause-seen g c =
    let u = g.W.Reads.state c.args.world.now in
    seen_is (g.W.Reads.program c.args.world.now) u.after c.args.actor (u.going c.args.actor) c.args.kind.now c.length.result c.overlaps.result c.place_seen.result c.args.orphan c.page_seen.result
    c.length.ensures c.overlaps.ensures c.place_seen.ensures c.requires c.page_seen.ensures
