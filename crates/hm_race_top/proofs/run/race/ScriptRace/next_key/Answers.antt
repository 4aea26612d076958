use Rattle.std.proofs.Common.{◌≡◌, ℕ, ◌+◌, List, [], sym, subst}
use Rattle.std.specs.Prelude.{IfSome}
use Rattle.hm_history.specs.Laws.{DueFrom}
use Rattle.hm_history.specs.declared.Entry.{Entry}
use Rattle.hm_race_laws.specs.Blur.{form_of}
use Rattle.hm_race_laws.specs.Outcomes.{Point, Reached}
use Rattle.hm_race_top.specs.Run.Known.{IsNext}
use Rattle.hm_race_states.specs.Keyed.{form_in}
use Rattle.hm_race_states.specs.declared.key.StateKey.{StateKey}
use Rattle.hm_race_top.specs.Run.Races.{RaceValue}
use Rattle.hm_race_top.specs.Run.Turns.{IsShown}
use Rattle.hm_race_top.proofs.run.race.ScriptRace.next_key.Goals as goal

pub next_key-requires : goal.next_key-requires
next_key-requires c = subst (λ (v : RaceValue). IsShown v.script c.args.key.now.state 2000000) (sym c.self.view_is) c.requires

pub returns-clause-next : goal.returns-clause-next
returns-clause-next c = λ x r e. subst (λ (v : RaceValue). (h : List Entry) (x : Point) → DueFrom v.script [] h → Reached v.script h x → form_of v.script x ≡ form_in c.args.key.now → IsNext form_in v.script x c.args.actor c.in_ok-next_key.field-0) c.self.view_is c.in_ok-next_key.ensures.next c.args.self.now.set_up x c.stands.ensures.due r e

pub returns-clause-kept : goal.returns-clause-kept
returns-clause-kept c = subst (λ (v : RaceValue). (n : ℕ) → IsShown v.script c.args.key.now.state n → IfSome c.in_ok-next_key.field-0 (λ (k : StateKey). IsShown v.script k.state (n + 1))) c.self.view_is c.in_ok-next_key.ensures.kept
