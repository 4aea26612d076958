-- What computation tells of the races of LongRaces.
use Rattle.std.proofs.Common.{refl}
use Rattle.hm_protocol.specs.Races.{AllComeTo}
use Rattle.hm_protocol.specs.LongRaces as races

told_twice_come : AllComeTo races.long_told_twice races.long_told_twice_races
told_twice_come = refl

own_come : AllComeTo races.long_own races.long_own_races
own_come = refl

leave_come : AllComeTo races.long_leave races.long_leave_races
leave_come = refl

busy_come : AllComeTo races.long_busy races.long_busy_races
busy_come = refl

pub all_come : races.LongRacesAreBlamed
all_come = (told_twice_come, own_come, leave_come, busy_come)
