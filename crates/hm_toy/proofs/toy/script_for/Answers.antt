use Rattle.hm_toy.proofs.Scripts.{made_script_fits}
use Rattle.hm_toy.proofs.toy.script_for.Goals as goal

pub invariant_of-result : goal.invariant_of-result
invariant_of-result c = made_script_fits _ _ c.loop.counter _ _ _ c.requires.actors c.requires.entries c.loop.auto.counter-end c.loop-test.false c.loop.invariant c.new-2.ensures c.new-3.ensures
