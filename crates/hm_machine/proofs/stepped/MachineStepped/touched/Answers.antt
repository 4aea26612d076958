use Rattle.std.proofs.Common.{◌∙◌, sym, rules}
use Rattle.hm_machine.proofs.Touched.{last_touches}
use Rattle.hm_machine.proofs.stepped.MachineStepped.touched.Goals as goal
use Rattle.hm_turns.proofs.Marks.{none_touches}

pub returns-in-None : goal.returns-in-None
returns-in-None g c = sym (none_touches c.args.self.now.history (search rules))

pub returns-in-Some : goal.returns-in-Some
returns-in-Some g c = c.touched_by.ensures ∙ last_touches c.args.self.now c.in-Some.entry.now (search rules)
