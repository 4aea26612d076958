use Rattle.std.proofs.Common.{◌≡◌, ◌∙◌, false, ap, subst, sym}
use Rattle.hm_history.specs.Kernel.Legal.{Legal}
use Rattle.hm_history.specs.Kernel.Run.{run}
use Rattle.hm_history.specs.Kernel.Overrun.{overruns}
use Rattle.hm_top.proofs.Drains.{run_drained}
use Rattle.hm_top.proofs.schedule.run_script.Goals as goal

pub returns-clause-whole : goal.returns-clause-whole
returns-clause-whole g c = λ not_full.
    let s = c.args.script in
    let same : c.into_parts-script.result.1.entries ≡ run s = c.into_parts-script.ensures.history ∙ c.in_ok-full.ensures.history ∙ ap (λ m. run m.script) c.in_ok-machine.ensures in
    let within : overruns s ≡ false = sym (ap (λ m. overruns m.script) c.in_ok-machine.ensures) ∙ c.in_ok-full.ensures.beyond ∙ not_full in
    record {
      ran = record { run_is = same; legal = subst (Legal s) (sym same) (c.every_run_is_legal.ensures s c.facts.ensures) };
      within = within;
      drained = run_drained c.never_stuck.ensures s c.facts.ensures within c.into_parts-script.result.1.entries same;
    }

pub returns-clause-legal : goal.returns-clause-legal
returns-clause-legal g c =
    let s = c.args.script in
    let same : c.into_parts-script.result.1.entries ≡ run s = c.into_parts-script.ensures.history ∙ c.in_ok-full.ensures.history ∙ ap (λ m. run m.script) c.in_ok-machine.ensures in
    let script : c.into_parts-script.result.0 ≡ s = c.into_parts-script.ensures.script ∙ c.in_ok-full.ensures.script ∙ ap (λ m. m.script) c.in_ok-machine.ensures in
    subst (λ x. Legal x c.into_parts-script.result.1.entries) (sym script) (subst (Legal s) (sym same) (c.every_run_is_legal.ensures s c.facts.ensures))
