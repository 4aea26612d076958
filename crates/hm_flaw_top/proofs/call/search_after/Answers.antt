use Rattle.std.proofs.Common.{inr, List, refl, subst}
use Rattle.hm_flaw_parts.specs.Judged.{judged_parts}
use Rattle.hm_history.specs.Kernel.Run.{run}
use Rattle.hm_history.specs.declared.Entry.{Entry}
use Rattle.hm_history.specs.declared.StepError.{StepError}
use Rattle.hm_flaw_top.specs.Told.{FlawsMayFail}
use Rattle.hm_flaw_top.proofs.Full.{full_flaws}
use Rattle.hm_flaw_top.proofs.call.search_after.Goals as goal

pub returns-in-Err-Full-clause-found : goal.returns-in-Err-Full-clause-found
returns-in-Err-Full-clause-found g c =
    let task = c.args.task in
    let parts = judged_parts task.judging in
    let s = c.args.script.now in
    let n = c.in-Err-Full.field-0-0 in
    let fails = subst (λ (e : StepError). FlawsMayFail task.which parts s c.args.set_up.now e) c.in-Err-Full.field-0-is c.in-Err-Full.ensures.fails in
    let there = subst (λ (h : List Entry). FlawsMayFail task.which parts s h (StepError.Full n)) c.requires.set_up fails in
    (inr (full_flaws task.which parts s (run s) n there), refl)
