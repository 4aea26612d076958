-- What computation tells of the races of ShortRaces.
use Rattle.std.proofs.Common.{refl}
use Rattle.hm_protocol.specs.Races.{AllComeTo}
use Rattle.hm_protocol.specs.ShortRaces as races

clear_come : AllComeTo races.clear races.clear_races
clear_come = refl

detach_come : AllComeTo races.detach races.detach_races
detach_come = refl

dev2_come : AllComeTo races.dev2 races.dev2_races
dev2_come = refl

entry_come : AllComeTo races.entry races.entry_races
entry_come = refl

entry2_come : AllComeTo races.entry2 races.entry2_races
entry2_come = refl

forkdev_come : AllComeTo races.forkdev races.forkdev_races
forkdev_come = refl

late_come : AllComeTo races.late races.late_races
late_come = refl

leave_come : AllComeTo races.leave races.leave_races
leave_come = refl

own_come : AllComeTo races.own races.own_races
own_come = refl

protect_come : AllComeTo races.protect races.protect_races
protect_come = refl

readonly_come : AllComeTo races.readonly races.readonly_races
readonly_come = refl

rem2_come : AllComeTo races.rem2 races.rem2_races
rem2_come = refl

retry_come : AllComeTo races.retry races.retry_races
retry_come = refl

shared_come : AllComeTo races.shared races.shared_races
shared_come = refl

two_come : AllComeTo races.two races.two_races
two_come = refl

walk_come : AllComeTo races.walk races.walk_races
walk_come = refl

zero_come : AllComeTo races.zero races.zero_races
zero_come = refl

own3_come : AllComeTo races.own3 races.own3_races
own3_come = refl

lost_come : AllComeTo races.lost races.lost_races
lost_come = refl

move_come : AllComeTo races.move races.move_races
move_come = refl

leak_come : AllComeTo races.leak races.leak_races
leak_come = refl

rem_come : AllComeTo races.rem races.rem_races
rem_come = refl

excl_come : AllComeTo races.excl races.excl_races
excl_come = refl

pub all_come : races.ShortRacesAreBlamed
all_come = (clear_come, detach_come, dev2_come, entry_come, entry2_come, forkdev_come, late_come, leave_come, own_come, protect_come, readonly_come, rem2_come, retry_come, shared_come, two_come, walk_come, zero_come, own3_come, lost_come, move_come, leak_come, rem_come, excl_come)
