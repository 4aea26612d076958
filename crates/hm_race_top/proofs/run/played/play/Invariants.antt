use Rattle.std.proofs.Common.{◌≡◌, length}
use Rattle.hm_race_top.specs.Run.Played.{IsAt, PrefersAll}
use Rattle.hm_race_top.specs.Run.Systems.{race_of}
use Rattle.hm_race_top.proofs.run.played.play.Given as goal

-- the order stands after its turns, each of which was the actor's if something was due to it
abbrev pub invariant-loop : goal.invariant-loop
invariant-loop l = IsAt l.race l.order.key l.order.turns
    × (PrefersAll (race_of l.race.script l.race.set_up) l.fn.first (race_of l.race.script l.race.set_up).start l.order.turns × (length l.order.turns ≡ l.counter))
