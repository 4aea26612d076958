use Rattle.std.proofs.Common.{◌≡◌, true}
use Rattle.hm_race_states.proofs.Alike.{there_alike, named_alike, areas_alike}
use Rattle.hm_race_states.proofs.spaces.RaceSpaces.same.Goals as goal

pub returns-then-not-same_flags-clause-no : goal.returns-then-not-same_flags-clause-no
returns-then-not-same_flags-clause-no c e =
    let h : c.same_flags.result ≡ true = c.same_flags.ensures.no (there_alike c.args.self.now c.args.other.now e) in
    cc

pub returns-then-not-same_flags-2-clause-no : goal.returns-then-not-same_flags-2-clause-no
returns-then-not-same_flags-2-clause-no c e =
    let h : c.same_flags-2.result ≡ true = c.same_flags-2.ensures.no (named_alike c.args.self.now c.args.other.now e) in
    cc

pub returns-clause-no : goal.returns-clause-no
returns-clause-no c e = c.same_areas.ensures.no (areas_alike c.args.self.now c.args.other.now e)
