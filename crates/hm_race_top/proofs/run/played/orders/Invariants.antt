use Rattle.std.proofs.Common.{◌≡◌, length}
use Rattle.hm_race_top.specs.Run.Known.{AreKnown}
use Rattle.hm_race_top.specs.Run.Played.{all_played, AreOrders}
use Rattle.hm_race_top.specs.Run.Systems.{race_of}
use Rattle.hm_race_top.proofs.run.played.orders.Given as goal

-- an order of each actor so far
abbrev pub invariant-loop-number : goal.invariant-loop-number
invariant-loop-number l = AreKnown l.race.script l.race.set_up (all_played l.played)
    × ((length l.played ≡ l.number) × AreOrders (race_of l.race.script l.race.set_up) 0 (all_played l.played))
