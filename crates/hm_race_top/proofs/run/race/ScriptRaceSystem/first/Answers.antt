use Rattle.std.proofs.Common.{sym, subst}
use Rattle.hm_race_top.specs.Run.Turns.{IsShown}
use Rattle.hm_race_top.proofs.Turns.{entries_from}
use Rattle.hm_race_top.proofs.run.race.ScriptRaceSystem.first.Goals as goal

pub returns-in-Ok-clause-kept : goal.returns-in-Ok-clause-kept
returns-in-Ok-clause-kept c =
    let race = c.args.self.now in
    subst (IsShown race.script c.in-Ok.key.state) (sym (entries_from race.script race.set_up)) c.in-Ok.ensures.kept
