use Rattle.std.proofs.Common.{◌+◌, ◌<◌, List, length, get_or, refl, sym, ap, subst, arith}
use Rattle.hm_flaws.specs.declared.flaws.Flaw.{Flaw}
use Rattle.hm_flaw_parts.specs.Judged.{judged_parts}
use Rattle.hm_flaw_top.specs.declared.text.table.RuleAnswer.{RuleAnswer}
use Rattle.hm_flaw_top.proofs.Rows.{one_more, rules_more}
use Rattle.hm_flaw_top.proofs.told.answers_of.Invariants.{SoFar}
use Rattle.hm_flaw_top.proofs.told.answers_of.Goals as goal

pub loop-flaw-preserved : goal.loop-flaw-preserved
loop-flaw-preserved c =
    let parts = judged_parts c.args.task.judging in
    let most = c.args.task.most in
    let s = c.args.script.now in
    let h = c.args.set_up.now in
    let flaws : List Flaw = c.all_flaws-flaws.result in
    let i = c.loop-flaw.flaw-index in
    let rows = c.loop-flaw.rows in
    let below : i < length flaws = omega (arith, c.loop-flaw-test.true, ap length c.all_flaws-flaws.ensures) in
    let new : RuleAnswer = record { rule = get_or flaws i Flaw.NoFlaw; answer = c.in-Ok.answer } in
    subst (λ (xs : List RuleAnswer). SoFar parts most s h flaws xs (i + 1)) {y = c.push.new.self} (sym {a = c.push.new.self} c.in-Ok-push.ensures.ok) (record {
      rules = rules_more rows new flaws i Flaw.NoFlaw below refl c.loop-flaw.invariant.rules;
      are = one_more parts most s h rows new c.loop-flaw.invariant.are c.in-Ok.ensures.answer;
    })
