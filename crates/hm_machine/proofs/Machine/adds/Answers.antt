use Rattle.hm_machine.proofs.Steps.{did, waited, idled, failed}
use Rattle.hm_machine.proofs.Machine.adds.Goals as goal

pub returns-in-Ok-Did : goal.returns-in-Ok-Did
returns-in-Ok-Did g c = did c.args.self.now c.step.new.self c.args.actor c.requires (rw c.in-Ok-Did.field-0-is at c.in-Ok-Did.ensures)

pub returns-in-Ok-Waiting : goal.returns-in-Ok-Waiting
returns-in-Ok-Waiting g c = waited c.args.self.now c.step.new.self c.args.actor c.in-Ok-Waiting.field-0-0 c.requires (rw c.in-Ok-Waiting.field-0-is at c.in-Ok-Waiting.ensures)

pub returns-in-Ok-Idle : goal.returns-in-Ok-Idle
returns-in-Ok-Idle g c = idled c.args.self.now c.step.new.self c.args.actor c.requires (rw c.in-Ok-Idle.field-0-is at c.in-Ok-Idle.ensures)

pub returns-in-Err : goal.returns-in-Err
returns-in-Err g c = failed c.args.self.now c.step.new.self c.args.actor c.in-Err.error c.requires c.in-Err.ensures
