use Rattle.hm_race_states.specs.Keyed.{form_in}
use Rattle.hm_race_top.proofs.Turning.{shown_upto}
use Rattle.hm_race_top.proofs.Turns.{next_after}
use Rattle.hm_race_top.proofs.run.race.ScriptRaceSystem.next.Goals as goal

pub next_key-requires : goal.next_key-requires
next_key-requires c = shown_upto c.args.self.now.script c.args.key.now.state c.args._entries 2000000 c.requires.room c.requires.kept

pub returns-in-Ok-clause-kept : goal.returns-in-Ok-clause-kept
returns-in-Ok-clause-kept c = c.in-Ok.ensures.kept c.args._entries c.requires.kept

pub returns-in-Ok-clause-next : goal.returns-in-Ok-clause-next
returns-in-Ok-clause-next c = next_after form_in c.args.self.now.script c.args.self.now.set_up (form_in c.args.key.now) c.args.actor c.in-Ok.next c.in-Ok.ensures.next
