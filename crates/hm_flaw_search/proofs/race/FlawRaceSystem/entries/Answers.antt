use Rattle.std.proofs.Common.{length, ap, ◌∙◌}
use Rattle.hm_flaw_search.specs.Races.{FlawRaceValue}
use Rattle.hm_flaw_search.proofs.Turning.{entries_from}
use Rattle.hm_flaw_search.proofs.race.FlawRaceSystem.entries.Goals as goal

pub returns : goal.returns
returns c = ap (λ (v : FlawRaceValue). length v.set_up) c.self.view_is ∙ entries_from c.args.self.now.script c.args.self.now.set_up
