use Rattle.std.proofs.Common.{sym, ap, ◌∙◌}
use Rattle.hm_race_laws.specs.Outcomes.{Point, ended_in}
use Rattle.hm_race_states.specs.States.{state_in}
use Rattle.hm_race_top.specs.Run.Races.{RaceValue}
use Rattle.hm_race_top.proofs.run.race.ScriptRaceSystem.ended.Goals as goal

pub returns : goal.returns
returns c = λ turns same. c.has_ended.ensures ∙ (ap (λ (v : RaceValue). ended_in v.script (state_in c.args.key.now.state)) c.self.view_is ∙ ap (λ (x : Point). ended_in c.args.self.now.script x.state) (sym same))
