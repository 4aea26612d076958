use Rattle.hm_script.specs.Generator.{generated}
use Rattle.hm_script.proofs.Whole.{whole, all_built}
use Rattle.hm_script.proofs.Again.{reading_again}
use Rattle.hm_script.proofs.Trials.{generated_is_script}
use Rattle.hm_script.proofs.laws.is_trial.Goals as goal

pub returns-clause-script : goal.returns-clause-script
returns-clause-script c = generated_is_script

pub returns-clause-read : goal.returns-clause-read
returns-clause-read c = λ number. reading_again whole (generated number) (generated_is_script number) (all_built (generated number))
