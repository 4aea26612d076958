use Rattle.std.proofs.Common.{length, sym, ap, ◌∙◌}
use Rattle.hm_race_top.proofs.Turns.{entries_from}
use Rattle.hm_race_top.specs.Run.Races.{RaceValue}
use Rattle.hm_race_top.proofs.run.race.ScriptRaceSystem.entries.Goals as goal

pub returns : goal.returns
returns c = c.len.ensures ∙ (ap (λ (v : RaceValue). length v.set_up) c.self.view_is ∙ sym (entries_from c.args.self.now.script c.args.self.now.set_up))
