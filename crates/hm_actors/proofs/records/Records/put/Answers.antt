use Rattle.std.proofs.Common.{arith, ap, ◌∙◌}
use Rattle.hm_history.specs.Kernel.Going.{with_record}
use Rattle.hm_actors.proofs.RisingKept.{rises_written}
use Rattle.hm_actors.proofs.records.Records.put.Goals as goal

pub invariant_of-self : goal.invariant_of-self
invariant_of-self c = (
  c.self.invariant.0,
  λ e. rises_written c.args.migrating c.self.inside.items.items c.put.new.records c.self.inside.items.len (omega (arith, c.put.auto.records, c.deref_mut.ensures.len))
      (c.put.ensures ∙ ap (with_record c.args.migrating) c.deref_mut.ensures.value) (c.self.invariant.1 e) _,
)
